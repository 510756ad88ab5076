-- Bytes as a list of entries of one kind, each of w bytes.
-- Assumes nothing.
use Rattle.std.specs.Prelude.{ℕ, ◌+◌, ◌*◌, ◌/◌, cond, List, ◌++◌, length, take, drop, Ok, Err, Result, nat_lt}
use Rattle.formats.specs.declared.refusal.ListRefusal.{ListRefusal}
use Rattle.formats.specs.declared.refusal.ListRefusal.TheVariants.{Outside, Entry}
use Rattle.formats.specs.declared.refusal.OutsideList.{OutsideList}

-- how many whole entries the bytes hold
abbrev pub entry_count : ℕ → List ℕ → ℕ
entry_count w bytes = length bytes / w

-- the bytes of the entry at a place
abbrev pub entry_bytes : ℕ → List ℕ → ℕ → List ℕ
entry_bytes w bytes place = take w (drop (place * w) bytes)

-- what an entry unpacks to, with its place where it does not
abbrev pub at_place : {E F : Type 0} → ℕ → Result E F → Result E (ListRefusal F)
at_place place (Ok entry) = Ok entry
at_place place (Err fault) = Err (Entry (record { fault = fault; place = place }))

-- the entry at a place; a place outside is refused before anything else
abbrev pub entry_at : {E F : Type 0} → ℕ → (List ℕ → Result E F) → List ℕ → ℕ → Result E (ListRefusal F)
entry_at w unpacked bytes place =
    cond (nat_lt place (entry_count w bytes)) (at_place place (unpacked (entry_bytes w bytes place))) (Err Outside)

-- the bytes with those of the entry at a place exchanged, and every other byte as it was; unchanged where the place is outside
abbrev pub with_entry : ℕ → List ℕ → List ℕ → ℕ → List ℕ
with_entry w packed bytes place =
    cond (nat_lt place (entry_count w bytes)) (take (place * w) bytes ++ (packed ++ drop (place * w + w) bytes)) bytes

-- whether an entry can be put at a place
abbrev pub put_answer : ℕ → List ℕ → ℕ → Result (Unit {0}) OutsideList
put_answer w bytes place = cond (nat_lt place (entry_count w bytes)) (Ok tt) (Err (record {}))
