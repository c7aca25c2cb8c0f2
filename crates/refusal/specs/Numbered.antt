-- Every refusal's number and layer (docs/RULES.md, "Refusals").
use Rattle.std.specs.Prelude.{ℕ, List, ◌++◌, Ok, Err, Result, codes, decimal}
use Rattle.refusal.specs.declared.Refusal.{Refusal}
use Rattle.refusal.specs.declared.Refusal.TheVariants.{ArchiveLength, WrongPhase, ForeignPermit, OutOfRange, RateRange, PlaceState, ContractNumber, ContractTerms, NoDaysLeft, DeliveryPrice, CashAmount, NotAvailable, ThirdPayOut, SameTrader, QuantityRange, PriceLimits, NotHeld, SideCeiling, DayCeiling, ShortOfMargin, NoRoom, LineLength, UnknownWord, FieldCount, BadField, NotAnArchive, BrokenChain}
use Rattle.refusal.specs.declared.Layer.{Layer}
use Rattle.refusal.specs.declared.Layer.TheVariants.{Text, Archive, Book}

-- The number by which the print-out and the documents name a refusal. Calls check in its order.
abbrev pub number_of : Refusal → ℕ
number_of ArchiveLength = 1
number_of WrongPhase = 2
number_of ForeignPermit = 3
number_of OutOfRange = 4
number_of RateRange = 5
number_of PlaceState = 6
number_of ContractNumber = 7
number_of ContractTerms = 8
number_of NoDaysLeft = 9
number_of DeliveryPrice = 10
number_of CashAmount = 11
number_of NotAvailable = 12
number_of ThirdPayOut = 13
number_of SameTrader = 14
number_of QuantityRange = 15
number_of PriceLimits = 16
number_of NotHeld = 17
number_of SideCeiling = 18
number_of DayCeiling = 19
number_of ShortOfMargin = 20
number_of NoRoom = 21
number_of LineLength = 22
number_of UnknownWord = 23
number_of FieldCount = 24
number_of BadField = 25
number_of NotAnArchive = 26
number_of BrokenChain = 27

-- Which layer turns the caller down: what is wrong with a line, with the archive's memory, or with the rest.
abbrev pub layer_of : Refusal → Layer
layer_of ArchiveLength = Archive
layer_of WrongPhase = Book
layer_of ForeignPermit = Book
layer_of OutOfRange = Book
layer_of RateRange = Book
layer_of PlaceState = Book
layer_of ContractNumber = Book
layer_of ContractTerms = Book
layer_of NoDaysLeft = Book
layer_of DeliveryPrice = Book
layer_of CashAmount = Book
layer_of NotAvailable = Book
layer_of ThirdPayOut = Book
layer_of SameTrader = Book
layer_of QuantityRange = Book
layer_of PriceLimits = Book
layer_of NotHeld = Book
layer_of SideCeiling = Book
layer_of DayCeiling = Book
layer_of ShortOfMargin = Book
layer_of NoRoom = Archive
layer_of LineLength = Text
layer_of UnknownWord = Text
layer_of FieldCount = Text
layer_of BadField = Text
layer_of NotAnArchive = Book
layer_of BrokenChain = Book

-- A refusal as text.
abbrev pub refused_text : Refusal → List ℕ
refused_text w = codes "refused " ++ decimal (number_of w)

-- The number that is said of an answer: the refusal's, or 0 for a call that was done.
abbrev pub number_said : Result (Unit {0}) Refusal → ℕ
number_said (Ok done) = 0
number_said (Err w) = number_of w
