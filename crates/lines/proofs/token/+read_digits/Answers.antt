use Rattle.std.proofs.Common.{◌-◌, ◌^◌, length, get_or, arith, rules}
use Rattle.lines.proofs.Rooms.{room_now, room_next}
use Rattle.std.proofs.lemmas.Bool.Decides.{nat_tests}
use Rattle.std.proofs.lemmas.List.{nil_from_length}
use Rattle.std.proofs.lemmas.Slice.{first_rest}
use Rattle.lines.proofs.token.+read_digits.Goals as goal

pub overflow_mul-high : goal.overflow_mul-high
overflow_mul-high t c = let h = room_now c.args.high (length c.args.text.now) (10 ^ 13) c.requires in search rules

pub overflow_add-high : goal.overflow_add-high
overflow_add-high t c = let h = room_now c.args.high (length c.args.text.now) (10 ^ 13) c.requires in search rules

pub read_digits-requires : goal.read_digits-requires
read_digits-requires t c = (search rules, room_next c.args.high (length c.args.text.now) _ (get_or c.args.text.now 0 0 - 48) (10 ^ 13) (omega arith) (search rules) c.requires)

pub returns-in-empty : goal.returns-in-empty
returns-in-empty t c = search (rules, nil_from_length)

pub returns-in-48-to-57 : goal.returns-in-48-to-57
returns-in-48-to-57 t c = grind (arith, nat_tests, first_rest)

pub returns-in_default : goal.returns-in_default
returns-in_default t c = grind (arith, nat_tests, first_rest)
