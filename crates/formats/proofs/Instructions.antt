-- Instructions as words, each way.
-- Assumes nothing.
use Rattle.std.proofs.Common.{◌≡◌, ℕ, ◌/◌, ◌%◌, ◌^◌, ◌<◌, ◌≤◌, Bool, true, cond, eqb, Ok, Err, Result, refl, ap, ◌∙◌, arith, lt-ltb}
use Rattle.std.proofs.lemmas.Bool.Decides.{nat_tests}
use Rattle.formats.specs.declared.refusal.InstructionFault.{InstructionFault}
use Rattle.formats.specs.declared.refusal.InstructionFault.TheVariants.{UnknownOpcode}
use Rattle.formats.specs.declared.register.Register.{Register}
use Rattle.formats.specs.declared.register.Register.TheVariants.{R0}
use Rattle.formats.specs.declared.instruction.Fields.{Fields}
use Rattle.formats.specs.declared.instruction.Instruction.{Instruction}
use Rattle.formats.specs.declared.instruction.Instruction.TheVariants.{Out}
use Rattle.formats.specs.Belows.{immediate_of, channel_of}
use Rattle.formats.specs.Registers.{register_number, register_at}
use Rattle.formats.specs.Instructions.{joined, split, encoded, decoded, only_if, instruction_word, word_instruction}
use Rattle.formats.proofs.Belows.{same_value}

-- an opcode above 14 is refused
pub unknown_opcode : (f : Fields) → 15 ≤ f.opcode → decoded f ≡ Err UnknownOpcode
unknown_opcode f h = grind (arith, nat_tests)

-- a register's number is below 8
pub register_below : (r : Register) → register_number r < 8
register_below r = grind arith

-- the register of a register's number is that register
register_again : (r : Register) → register_at (register_number r) ≡ r
register_again R0 = refl
register_again _ = refl

-- the number of the register of a number below 8 is that number
register_back : (n : ℕ) → n < 8 → register_number (register_at n) ≡ n
register_back n h = grind (arith, nat_tests)

-- the fields of joined fields are those fields
split_joined : (f : Fields) → f.opcode < 32 → split (joined f) ≡ f
split_joined f small =
    let bounds : (register_number f.d < 8) × (register_number f.a < 8) × (register_number f.b < 8) × (f.n.value < 262144) = (register_below f.d, register_below f.a, register_below f.b, f.n.fits) in
    let opcode : joined f / 134217728 ≡ f.opcode = omega arith in
    let d : joined f / 16777216 % 8 ≡ register_number f.d = omega arith in
    let a : joined f / 2097152 % 8 ≡ register_number f.a = omega arith in
    let b : joined f / 262144 % 8 ≡ register_number f.b = omega arith in
    let n : immediate_of (joined f) ≡ f.n = same_value _ _ _ (omega arith) in
    rw (opcode, d, a, b, n, register_again f.d, register_again f.a, register_again f.b)

opcode_small : (i : Instruction) → (encoded i).opcode < 32
opcode_small i = grind arith

-- an instruction's word is a word
pub word_fits : (i : Instruction) → instruction_word i < 256 ^ 4
word_fits i =
    let f = encoded i in
    omega (arith, opcode_small i, register_below f.d, register_below f.a, register_below f.b, f.n.fits)

-- an instruction's fields decode to the instruction
decoded_encoded : (i : Instruction) → decoded (encoded i) ≡ Ok i
decoded_encoded (Out a channel) =
    let same : channel_of (immediate_of channel.value).value ≡ channel = same_value _ _ _ (omega (arith, channel.fits)) in
    rw (lt-ltb (channel.value % 262144) 256 (omega (arith, channel.fits)), same)
decoded_encoded _ = refl

-- unpacking an instruction's word gives the instruction
pub word_again : (i : Instruction) → word_instruction (instruction_word i) ≡ Ok i
word_again i = ap decoded (split_joined (encoded i) (opcode_small i)) ∙ decoded_encoded i

-- the joined fields of a word are the word
pub joined_split : (w : ℕ) → joined (split w) ≡ w
joined_split w =
    rw (register_back (w / 16777216 % 8) (omega arith), register_back (w / 2097152 % 8) (omega arith), register_back (w / 262144 % 8) (omega arith)) (omega arith)

-- what decodes is an instruction whose joined fields are those that were decoded
module _ (f : Fields) (e : Instruction) where
  -- one case of the decoder: either it is this opcode, or a later one
  branch : (k : ℕ) (t : Bool) (i : Instruction) (later : Result Instruction InstructionFault) → (f.opcode ≡ k → t ≡ true → joined (encoded i) ≡ joined f) → (later ≡ Ok e → joined (encoded e) ≡ joined f) → cond (eqb f.opcode k) (only_if t i) later ≡ Ok e → joined (encoded e) ≡ joined f
  branch k t i later here there h = grind (arith, nat_tests)

  decoded_back : decoded f ≡ Ok e → joined (encoded e) ≡ joined f
  decoded_back =
      branch 0 _ _ _ (λ p t. grind (arith, nat_tests))
      (branch 1 _ _ _ (λ p t. grind (arith, nat_tests))
      (branch 2 _ _ _ (λ p t. grind (arith, nat_tests))
      (branch 3 _ _ _ (λ p t. grind (arith, nat_tests))
      (branch 4 _ _ _ (λ p t. grind (arith, nat_tests))
      (branch 5 _ _ _ (λ p t. grind (arith, nat_tests))
      (branch 6 _ _ _ (λ p t. grind (arith, nat_tests))
      (branch 7 _ _ _ (λ p t. grind (arith, nat_tests))
      (branch 8 _ _ _ (λ p t. grind (arith, nat_tests))
      (branch 9 _ _ _ (λ p t. grind (arith, nat_tests))
      (branch 10 _ _ _ (λ p t. grind (arith, nat_tests))
      (branch 11 _ _ _ (λ p t. grind (arith, nat_tests))
      (branch 12 _ _ _ (λ p t. grind (arith, nat_tests))
      (branch 13 _ _ _ (λ p t. grind (arith, nat_tests))
      (branch 14 _ _ _ (λ p t. grind (arith, nat_tests))
      (λ h. cc)))))))))))))))

-- packing what a word unpacks to gives the word
pub word_back : (w : ℕ) (i : Instruction) → w < 256 ^ 4 → word_instruction w ≡ Ok i → instruction_word i ≡ w
word_back w i h is = decoded_back (split w) i is ∙ joined_split w
