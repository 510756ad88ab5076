-- The calls of the engine: the questions in their order, what each answers, and the engine afterwards.
--   step, turn                      a core moves
--   clear, hold, read, give_back    the record is emptied, and the host's hold
--   take_oldest, record_at, Tags, status  outlet, record, tags, and what people see
-- Assumes nothing.
use Rattle.std.specs.Prelude.{◌≡◌, ℕ, suc, ◌+◌, ◌==◌, nat_le, nat_lt, Bool, if◌then◌else◌, MatchBool, Some, None, Option, Ok, Err, Result}
use Rattle.std.specs.Prelude.{List, [], ◌∷◌, length, take, drop, slice_get, slice_index, count_by}
use Rattle.std.specs.Option.{ok_or}
use Rattle.formats.specs.declared.answer.Answer.{Answer}
use Rattle.formats.specs.declared.refusal.NothingWaits.{NothingWaits}
use Rattle.formats.specs.declared.bounds.TheConstants.{MOST_ENTRIES}
use Rattle.formats.specs.declared.entry.RecordEntry.{RecordEntry}
use Rattle.formats.specs.declared.entry.SentEntry.{SentEntry}
use Rattle.model.specs.declared.refusal.StepRefusal.{StepRefusal}
use Rattle.model.specs.declared.refusal.StepRefusal.TheVariants.{NoSuchCore, RecordFull}
use Rattle.model.specs.declared.refusal.ClearRefusal.{ClearRefusal}
use Rattle.model.specs.declared.refusal.ClearRefusal.TheVariants.{TokenTaken}
use Rattle.model.specs.declared.refusal.HoldRefusal.{HoldRefusal}
use Rattle.model.specs.declared.refusal.HoldRefusal.TheVariants.{TokenTaken as NotForHost}
use Rattle.model.specs.declared.refusal.ReadRefusal.{ReadRefusal}
use Rattle.model.specs.declared.refusal.ReadRefusal.TheVariants.{NotHeld, AddressOutside}
use Rattle.model.specs.declared.refusal.GiveBackRefusal.{GiveBackRefusal}
use Rattle.model.specs.declared.refusal.GiveBackRefusal.TheVariants.{NotHeld as NothingHeld}
use Rattle.model.specs.declared.refusal.RecordRefusal.{RecordRefusal}
use Rattle.model.specs.declared.refusal.RecordRefusal.TheVariants.{NotFilled}
use Rattle.model.specs.declared.refusal.TagsRefusal.{TagsRefusal}
use Rattle.model.specs.declared.refusal.TagsRefusal.TheVariants.{NoSuchCore as NoTags, TooShort}
use Rattle.model.specs.declared.state.Status.{Status}
use Rattle.model.specs.declared.state.Token.{Token}
use Rattle.model.specs.declared.state.Token.TheVariants.{Free, Core as CoreHas, Host}
use Rattle.model.specs.declared.line.Line.{Line}
use Rattle.model.specs.Lines.{tagged, tags}
use Rattle.model.specs.Cores.{Core, Shared, Outcome, outcome}
use Rattle.model.specs.Engine.{Engine, core_at, shared, change}

-- the engine after a call, and what the call answers
pub record After (A : Type 0) : Type 0 where
  pub engine : Engine
  pub answer : A

-- a call that leaves the engine as it is
abbrev pub stays : {A : Type 0} → Engine → A → After A
stays e a = record { engine = e; answer = a }

-- how many free entries of the record a step of a core asks for
abbrev pub wanted : Token → ℕ → ℕ
wanted (CoreHas k) i = if k == i then 1 else 2
wanted _ i = 1

-- has the record as many?
abbrev pub has_entries : Shared → ℕ → Bool
has_entries s i = nat_le (length s.entries + wanted s.token i) MOST_ENTRIES

-- what a step of a core comes to
abbrev pub outcome_of : Engine → ℕ → Outcome
outcome_of e i = outcome (shared e) i (core_at e i)

-- a step that is not refused
abbrev pub stepped : Engine → ℕ → After (Result Answer StepRefusal)
stepped e i = record { engine = change e i (outcome_of e i); answer = Ok (outcome_of e i).answer }

-- step: one core moves; refused where there is no such core, and where the record has too few free entries
abbrev pub step : Engine → ℕ → After (Result Answer StepRefusal)
step e i =
    if nat_lt i (length e.cores) then (if has_entries (shared e) i then stepped e i else stays e (Err RecordFull))
    else stays e (Err NoSuchCore)

-- the core after a core, the first after the last
abbrev pub following : ℕ → ℕ → ℕ
following i n = if nat_lt (suc i) n then suc i else 0

-- the next core is next, unless the turn was refused
abbrev pub advanced : Result Answer StepRefusal → Engine → Engine
advanced (Ok a) e = record e { next = following e.next (length e.cores) }
advanced (Err r) e = e

-- turn: the core whose turn it is moves; refused as its step is, and then it is next again
abbrev pub turn : Engine → After (Result Answer StepRefusal)
turn e = record { engine = advanced (step e e.next).answer (step e e.next).engine; answer = (step e e.next).answer }

-- clear: the record is emptied; refused unless the token is free
abbrev pub clear_if : Token → Engine → After (Result (Unit {0}) ClearRefusal)
clear_if Free e = record { engine = record e { entries = [] }; answer = Ok tt }
clear_if _ e = stays e (Err TokenTaken)

abbrev pub clear : Engine → After (Result (Unit {0}) ClearRefusal)
clear e = clear_if e.token e

-- hold: the host takes the token; refused unless the token is free
abbrev pub hold_if : Token → Engine → After (Result (Unit {0}) HoldRefusal)
hold_if Free e = record { engine = record e { token = Host }; answer = Ok tt }
hold_if _ e = stays e (Err NotForHost)

abbrev pub hold : Engine → After (Result (Unit {0}) HoldRefusal)
hold e = hold_if e.token e

-- read: the word at an address; refused unless the host has the token, and outside the memory; the engine stays as it is
abbrev pub read_if : Token → Engine → ℕ → Result ℕ ReadRefusal
read_if Host e a = if nat_lt a (length e.memory) then Ok (slice_index e.memory a) else Err AddressOutside
read_if _ e a = Err NotHeld

abbrev pub read : Engine → ℕ → Result ℕ ReadRefusal
read e a = read_if e.token e a

-- give back: the token is free; refused unless the host has it
abbrev pub give_back_if : Token → Engine → After (Result (Unit {0}) GiveBackRefusal)
give_back_if Host e = record { engine = record e { token = Free }; answer = Ok tt }
give_back_if _ e = stays e (Err NothingHeld)

abbrev pub give_back : Engine → After (Result (Unit {0}) GiveBackRefusal)
give_back e = give_back_if e.token e

-- take: the oldest waiting entry; refused unless one waits
abbrev pub take_from : List SentEntry → Engine → After (Result SentEntry NothingWaits)
take_from [] e = stays e (Err (record {}))
take_from (x ∷ xs) e = record { engine = record e { outlet = record { waiting = xs; room = suc e.outlet.room } }; answer = Ok x }

abbrev pub take_oldest : Engine → After (Result SentEntry NothingWaits)
take_oldest e = take_from e.outlet.waiting e

-- record: the entry at a place; refused where none is filled
abbrev pub record_at : Engine → ℕ → Result RecordEntry RecordRefusal
record_at e n = ok_or (slice_get e.entries n) NotFilled

-- tags that were copied: the one order that is left free, with what holds of it
pub record TagsCopied (ls : List Line) (before after : List ℕ) (number : ℕ) : Type 0 where
  -- the answer is the number of tagged lines
  pub counted : number ≡ length (tags ls)
  -- the list is as long as it was
  pub size : length after ≡ length before
  -- in the first places each tagged address stands once, and nothing else
  pub each : (a : ℕ) → count_by (λ x. x == a) (take number after) ≡ (if tagged ls a then 1 else 0)
  -- the other places are as they were
  pub rest : drop number after ≡ drop number before

-- tags that were refused: the list is as it was
abbrev pub TagsRefused : TagsRefusal → List ℕ → List ℕ → Result ℕ TagsRefusal → Type 0
TagsRefused r before after answer = (answer ≡ Err r) × (after ≡ before)

-- copying the tagged addresses of lines to a list: it takes them all, or nothing is copied
abbrev pub LineTags : List Line → List ℕ → List ℕ → Result ℕ TagsRefusal → Type 0
LineTags ls before after answer =
    MatchBool (nat_le (length (tags ls)) (length before))
    ((number : ℕ) × (answer ≡ Ok number) × TagsCopied ls before after number)
    (TagsRefused TooShort before after answer)

-- tags: what copying a core's tagged addresses to a list answers and leaves there
abbrev pub Tags : Engine → ℕ → List ℕ → List ℕ → Result ℕ TagsRefusal → Type 0
Tags e i before after answer =
    MatchBool (nat_lt i (length e.cores)) (LineTags (core_at e i).lines before after answer) (TagsRefused NoTags before after answer)

-- status: a core as people see it; none where there is no such core
abbrev pub status_of : Core → Status
status_of c = record {
  state = c.state;
  pc = c.context.pc;
  registers = c.context.registers;
  depth = c.depth;
  count = c.count;
  used = length c.lines;
}

abbrev pub status : Engine → ℕ → Option Status
status e i = if nat_lt i (length e.cores) then Some (status_of (core_at e i)) else None

-- who has the token
abbrev pub holder : Engine → Token
holder e = e.token
