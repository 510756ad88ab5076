-- Reading a program, one instruction more.
-- Assumes nothing.
use Rattle.std.proofs.Common.{◌≡◌, ℕ, suc, ◌+◌, ◌-◌, ◌/◌, ◌<◌, ◌≤◌, true, List, [], ◌∷◌, ◌++◌, length, get_or, take, drop, replicate}
use Rattle.std.proofs.Common.{set, Ok, Err, Result, sym, ap, ◌∙◌, append_assoc, append-nil, drop-drop, add-one, arith, length-set}
use Rattle.std.proofs.Common.{length-take-le, get_or-take, take-suc-set}
use Rattle.std.specs.Option.{unwrap_or}
use Rattle.std.proofs.lemmas.List.{get_or_default, get_or_past, drop-set-lt}
use Rattle.std.proofs.lemmas.Bool.Decides.{nat_tests}
use Rattle.formats.specs.declared.refusal.InstructionFault.{InstructionFault}
use Rattle.formats.specs.declared.refusal.ListRefusal.{ListRefusal}
use Rattle.formats.specs.Refusals.{ProgramRefusal}
use Rattle.formats.specs.declared.instruction.Instruction.{Instruction}
use Rattle.formats.specs.declared.instruction.Instruction.TheVariants.{Halt}
use Rattle.formats.specs.Instructions.{bytes_instruction}
use Rattle.codecs.specs.PackedList.{entry_at}
use Rattle.codecs.specs.Accepted.{target_inside, targets_inside, last_of, Accepted}
use Rattle.codecs.specs.Programs.{instruction_in}
use Rattle.codecs.specs.Reading.{good_count, in_program, instruction_at, read_from}

-- a front that was read, and what reading the rest answers
abbrev pub prepended : List Instruction → Result (List Instruction) ProgramRefusal → Result (List Instruction) ProgramRefusal
prepended front (Ok rest) = Ok (front ++ rest)
prepended front (Err r) = Err r

module _ (k count : ℕ) (bytes : List ℕ) (place : ℕ) (front : List Instruction) where
  -- one instruction more
  pub read_more : (i : Instruction) → instruction_at count bytes place ≡ Ok i → prepended front (read_from (suc k) count bytes place) ≡ prepended (front ++ (i ∷ [])) (read_from k count bytes (suc place))
  unfolding read_from
  read_more i is = grind (arith, append_assoc {A = Instruction})

  -- the first refusal decides
  pub read_stop : (r : ProgramRefusal) → instruction_at count bytes place ≡ Err r → prepended front (read_from (suc k) count bytes place) ≡ Err r
  unfolding read_from
  read_stop r is = grind arith

-- nothing is left to read
pub read_none : (count : ℕ) (bytes : List ℕ) (place : ℕ) (front : List Instruction) → prepended front (read_from 0 count bytes place) ≡ Ok front
unfolding read_from
read_none count bytes place front = ap Ok (append-nil front)

-- what was read has its jump inside
inside_from : (count place : ℕ) (u : Result Instruction (ListRefusal InstructionFault)) (i : Instruction) → in_program count place u ≡ Ok i → target_inside count i ≡ true
inside_from count place u i is = grind arith

pub targets_push : (count : ℕ) (is : List Instruction) (i : Instruction) → targets_inside count is ≡ true → target_inside count i ≡ true → targets_inside count (is ++ (i ∷ [])) ≡ true
targets_push count [] i h t = rw t
targets_push count (j ∷ is) i h t = grind (arith, targets_push count is i)

-- the instruction at a place, or HALT where there is none
pub halt_past : (is : List Instruction) (pc : ℕ) → unwrap_or (instruction_in is pc) Halt ≡ get_or is pc Halt
halt_past is pc = grind (arith, nat_tests, get_or_past)

-- the state of the reading before an instruction: the front that was read, and what is left
pub record Sofar (count : ℕ) (bytes : List ℕ) (is : List Instruction) (place : ℕ) : Type 0 where
  pub long : length is ≡ 512
  pub reads : read_from count count bytes 0 ≡ prepended (take place is) (read_from (count - place) count bytes place)
  pub targets : targets_inside count (take place is) ≡ true
  pub blank : drop place is ≡ drop place (replicate 512 Halt)

module _ (count : ℕ) (bytes : List ℕ) (is : List Instruction) (place : ℕ) (few : count ≤ 512) (sofar : Sofar count bytes is place) where
  -- one instruction more
  pub sofar_more : (i : Instruction) → place < count → instruction_at count bytes place ≡ Ok i → Sofar count bytes (set is place i) (place + 1)
  sofar_more i lt at =
      let left : count - place ≡ suc (count - (place + 1)) = omega arith in
      let within : place < length is = omega (arith, sofar.long) in
      let front : take (place + 1) (set is place i) ≡ take place is ++ (i ∷ []) = rw add-one (take-suc-set is place i within) in
      record {
        long = length-set is place i ∙ sofar.long;
        reads = rw (sofar.reads, left, read_more (count - (place + 1)) count bytes place (take place is) i at, front, add-one place);
        targets = rw front (targets_push count (take place is) i sofar.targets (inside_from count place (entry_at 4 bytes_instruction bytes place) i at));
        blank = rw (drop-set-lt (place + 1) is place i (omega arith), ← drop-drop 1 place is, sofar.blank, drop-drop 1 place (replicate 512 Halt));
      }

  -- a refused instruction refuses the program
  pub sofar_stop : (r : ProgramRefusal) → place < count → instruction_at count bytes place ≡ Err r → read_from count count bytes 0 ≡ Err r
  sofar_stop r lt at =
      let left : count - place ≡ suc (count - (place + 1)) = omega arith in
      rw (sofar.reads, left, read_stop (count - (place + 1)) count bytes place (take place is) r at)

  -- all is read
  pub sofar_all : place ≡ count → read_from count count bytes 0 ≡ Ok (take count is)
  sofar_all all =
      let none : count - place ≡ 0 = omega arith in
      rw (sofar.reads, none, read_none count bytes place (take place is), all)

-- the last of the first count instructions
pub last_item : (is : List Instruction) (count : ℕ) (x : Instruction) → 0 < count → count ≤ length is → get_or is (count - 1) x ≡ last_of (take count is)
last_item is count x some h =
    rw (length-take-le count is h) (get_or_default is (count - 1) x Halt (omega arith) ∙ sym (get_or-take count is (count - 1) Halt (omega arith)))

-- a good byte count gives one to 512 instructions
pub count_good : (n count : ℕ) → good_count n ≡ true → count ≡ n / 4 → (0 < count) × (count ≤ 512)
count_good n count good is = grind (arith, nat_tests)

-- a jump below a count is below a greater one
inside_more : (count more : ℕ) → count ≤ more → (i : Instruction) → target_inside count i ≡ true → target_inside more i ≡ true
inside_more count more h i t = grind (arith, nat_tests)

inside_at : (count : ℕ) (is : List Instruction) (k : ℕ) → targets_inside count is ≡ true → target_inside count (get_or is k Halt) ≡ true
inside_at count (i ∷ is) (suc k) t = grind (arith, inside_at count is k)
inside_at count _ _ t = grind arith

-- the jump of an instruction of an accepted program stays below 512
pub jumps_below : (is : List Instruction) (k : ℕ) → Accepted is → target_inside 512 (get_or is k Halt) ≡ true
jumps_below is k accepted = inside_more (length is) 512 accepted.few (get_or is k Halt) (inside_at (length is) is k accepted.targets)
