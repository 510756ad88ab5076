-- Names are ASCII, so a word that is no text is none of them.
-- Assumes nothing.
use Rattle.std.proofs.Common.{◌≡◌, ℕ, zero, suc, Bool, true, false, cond, ◌&&◌, ltb, List, [], ◌∷◌, Err, IsAscii, inl, inr, arith, ltb-true}
use Rattle.std.specs.Str.{bytes_eq}
use Rattle.std.proofs.lemmas.Bool.{cases_Bool}
use Rattle.std.proofs.lemmas.Slice.Eq.{bytes_eq-Decides}
use Rattle.console.specs.declared.reason.Reason.TheVariants.{UnknownCommand}
use Rattle.console.specs.Parsing.{named_of}

-- ASCII throughout
abbrev ascii : List ℕ → Bool
ascii [] = true
ascii (b ∷ bs) = ltb b 128 && ascii bs

all_ascii : (name : List ℕ) → ascii name ≡ true → IsAscii name
all_ascii [] h i = omega arith
all_ascii (b ∷ bs) h zero =
    elim (cases_Bool (ltb b 128)) [ inl t ↦ ltb-true b 128 t | inr f ↦ let e : false ≡ true = rw f at h in cc ]
all_ascii (b ∷ bs) h (suc i) =
    elim (cases_Bool (ltb b 128)) [ inl t ↦ all_ascii bs (rw t at h) i | inr f ↦ let e : false ≡ true = rw f at h in cc ]

-- the test whether a word is a name, under another name
unfoldable same : List ℕ → List ℕ → Bool
same word name = bytes_eq word name

-- it fails for a word that is not ASCII and a name that is
fails : (word name : List ℕ) → (IsAscii word → ⊥) → bytes_eq word name ≡ cond (ascii name) false (same word name)
unfolding same
fails word name foreign =
    elim (cases_Bool (ascii name)) [
      | inl plain ↦
          elim (cases_Bool (bytes_eq word name)) [
            | inl t ↦ let e = (bytes_eq-Decides word name).0 t in absurd (foreign (rw e (all_ascii name plain)))
            | inr f ↦ rw (plain, f)
          ]
      | inr strange ↦ rw strange
    ]

pub no_text : (word : List ℕ) (ws : List (List ℕ)) → (IsAscii word → ⊥) → Err UnknownCommand ≡ named_of word ws
no_text word ws foreign =
    let each : (name : List ℕ) → bytes_eq word name ≡ cond (ascii name) false (same word name) = λ name. fails word name foreign in
    simp each
