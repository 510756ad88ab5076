-- Why a line is not understood, in words; and what is read of a line.
-- Assumes nothing.
use Rattle.std.specs.Prelude.{◌≡◌, ℕ, List, Ok, Err, codes, Result}
use Rattle.text.specs.declared.number.NumberFault.{NumberFault}
use Rattle.text.specs.declared.number.NumberFault.TheVariants.{NoNumber as NoDigits, TooLarge}
use Rattle.console.specs.declared.reason.Reason.{Reason}
use Rattle.console.specs.declared.reason.Reason.TheVariants.{UnknownCommand, MissingWord, NoNumber, NumberTooLarge, NoBytes}
use Rattle.console.specs.declared.reason.Reason.TheVariants.{NotFiveBytes, UnknownKind, ExtraWord, NoProgram, NoEngine}
use Rattle.console.specs.declared.reason.ParseError.{ParseError}
use Rattle.console.specs.declared.reason.ParseError.TheVariants.{NotUnderstood, NoMemory}

-- the words after "-> not understood: "
abbrev pub reason_text : Reason → List ℕ
reason_text UnknownCommand = codes "unknown command"
reason_text MissingWord = codes "missing word"
reason_text NoNumber = codes "no number"
reason_text NumberTooLarge = codes "number too large"
reason_text NoBytes = codes "no bytes"
reason_text NotFiveBytes = codes "not five bytes"
reason_text UnknownKind = codes "unknown kind"
reason_text ExtraWord = codes "extra word"
reason_text NoProgram = codes "no program"
reason_text NoEngine = codes "no engine"

-- why a token is not taken for a number
abbrev pub number_reason : NumberFault → Reason
number_reason NoDigits = NoNumber
number_reason TooLarge = NumberTooLarge

-- the value that was parsed is the one that is wanted, and so is the reason; where memory ran out, nothing is promised
abbrev pub ParsesAs : {A B : Type 0} → (A → B) → Result A ParseError → Result B Reason → Type 0
ParsesAs value (Ok a) wanted = Ok (value a) ≡ wanted
ParsesAs value (Err (NotUnderstood reason)) wanted = Err reason ≡ wanted
ParsesAs value (Err NoMemory) wanted = Unit {0}
