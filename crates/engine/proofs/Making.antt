-- Entry places that lie below a bound lie below a larger one.
-- Assumes nothing.
use Rattle.std.proofs.Common.{◌≡◌, ℕ, ◌≤◌, true, ltb, List, [], ◌∷◌, refl, arith, ltb-true, lt-ltb}
use Rattle.std.proofs.lemmas.Bool.{and_from, and_parts}
use Rattle.model.specs.Engine.{all_below}

pub below_wider : (ps : List ℕ) (m n : ℕ) → m ≤ n → all_below ps m ≡ true → all_below ps n ≡ true
below_wider [] m n h all = refl
below_wider (p ∷ ps) m n h all =
    let b = and_parts (ltb p m) (all_below ps m) all in
    and_from (ltb p n) (all_below ps n) (lt-ltb p n (omega (arith, ltb-true p m b.0))) (below_wider ps m n h b.1)
