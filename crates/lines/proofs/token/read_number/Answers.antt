use Rattle.std.proofs.Common.{length, arith}
use Rattle.std.proofs.lemmas.Bool.Decides.{nat_tests}
use Rattle.lines.proofs.Rooms.{room_first}
use Rattle.lines.proofs.token.read_number.Goals as goal

pub read_digits-requires : goal.read_digits-requires
read_digits-requires c = room_first (length c.args.text.now) (grind (arith, nat_tests))
