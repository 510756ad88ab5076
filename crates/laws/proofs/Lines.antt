-- Lines laid over a memory: what a block's buffer makes of the memory that it reads.
-- Assumes nothing.
use Rattle.std.proofs.Common.{◌≡◌, ℕ, ◌<◌, true, false, cond, ◌&&◌, ◌||◌, eqb, List, [], ◌∷◌, ◌++◌, length, get_or, set, refl, arith}
use Rattle.std.proofs.lemmas.List.{length-set, get_or-set_same, get_or-set_other, set-set, set_comm}
use Rattle.std.proofs.lemmas.Bool.Decides.{nat_tests}
use Rattle.model.specs.declared.line.Line.{Line}
use Rattle.model.specs.Lines.{has_line, value_at, tagged, store_at, any_dirty, next_write, after_write}
use Rattle.model.specs.Instructions.{memory_after}
use Rattle.model.proofs.Lines.{untagged}

-- the memory with a line laid over it
abbrev pub laid : Line → List ℕ → List ℕ
laid l m = cond l.dirty (set m l.address l.value) m

-- the memory with the dirty lines laid over it, oldest first
abbrev pub overlay : List Line → List ℕ → List ℕ
overlay [] m = m
overlay (l ∷ ls) m = overlay ls (laid l m)

pub length_overlay : (ls : List Line) (m : List ℕ) → length (overlay ls m) ≡ length m
length_overlay [] m = refl
length_overlay (l ∷ ls) m = grind (arith, length_overlay ls (laid l m), length-set {A = ℕ})

pub overlay_append : (ls : List Line) (l : Line) (m : List ℕ) → overlay (ls ++ l ∷ []) m ≡ laid l (overlay ls m)
overlay_append [] l m = refl
overlay_append (k ∷ ls) l m = overlay_append ls l (laid k m)

pub overlay_clean : (ls : List Line) (m : List ℕ) → any_dirty ls ≡ false → overlay ls m ≡ m
overlay_clean [] m h = refl
overlay_clean (l ∷ ls) m h = grind (arith, overlay_clean ls m)

-- writing the oldest dirty line does not change the memory as overlaid
pub overlay_after_write : (ls : List Line) (m : List ℕ) → overlay (after_write ls) (memory_after (next_write ls) m) ≡ overlay ls m
overlay_after_write [] m = refl
overlay_after_write (l ∷ ls) m = grind (arith, overlay_after_write ls m)

pub get_or_overlay_other : (ls : List Line) (m : List ℕ) (a : ℕ) → has_line ls a ≡ false → get_or (overlay ls m) a 0 ≡ get_or m a 0
get_or_overlay_other [] m a h = refl
get_or_overlay_other (l ∷ ls) m a h = grind (arith, nat_tests, get_or_overlay_other ls (laid l m) a, get_or-set_other {A = ℕ})

pub overlay_set : (ls : List Line) (m : List ℕ) (a w : ℕ) → has_line ls a ≡ false → overlay ls (set m a w) ≡ set (overlay ls m) a w
overlay_set [] m a w h = refl
overlay_set (l ∷ ls) m a w h = grind (arith, nat_tests, overlay_set ls (laid l m) a w, set_comm m a l.address w l.value)

-- a line fits a memory: it lies inside, and unless it is dirty it is tagged and has the memory's word
pub record Fits (m : List ℕ) (l : Line) : Type 0 where
  pub inside : l.address < length m
  pub clean : l.dirty ≡ false → (l.tag ≡ true) × (get_or m l.address 0 ≡ l.value)

-- all lines fit, and no two are at one address
abbrev pub Fit : List ℕ → List Line → Type 0
Fit m [] = Unit {0}
Fit m (l ∷ ls) = Fits m l × (has_line ls l.address ≡ false) × Fit m ls

-- two memories have the same words where lines are tagged
abbrev pub Agree : List Line → List ℕ → List ℕ → Type 0
Agree ls m m' = (a : ℕ) → tagged ls a ≡ true → get_or m' a 0 ≡ get_or m a 0

-- a write where no line is tagged leaves the lines fitting
pub fit_set : (ls : List Line) (m : List ℕ) (a w : ℕ) → Fit m ls → tagged ls a ≡ false → Fit (set m a w) ls
fit_set [] m a w f h = tt
fit_set (l ∷ ls) m a w f h = grind (arith, nat_tests, length-set {A = ℕ}, get_or-set_other {A = ℕ}, fit_set ls m a w)

fit_laid : (l : Line) (ls : List Line) (m : List ℕ) → Fit m (l ∷ ls) → Fit (laid l m) ls
fit_laid l ls m f = grind (arith, fit_set ls m l.address l.value, untagged ls l.address)

-- a load of a line's word
pub get_or_overlay : (ls : List Line) (m : List ℕ) (a : ℕ) → Fit m ls → has_line ls a ≡ true → get_or (overlay ls m) a 0 ≡ value_at ls a
get_or_overlay [] m a f h = cc
get_or_overlay (l ∷ ls) m a f h =
    let ih = get_or_overlay ls (laid l m) a (fit_laid l ls m f) in
    grind (arith, nat_tests, get_or_overlay_other ls (laid l m) a, get_or-set_same m a l.value 0)

pub overlay_store_at :
    (ls : List Line) (m : List ℕ) (a w : ℕ) → Fit m ls → has_line ls a ≡ true → overlay (store_at ls a w) m ≡ set (overlay ls m) a w
overlay_store_at [] m a w f h = cc
overlay_store_at (l ∷ ls) m a w f h =
    let ih = overlay_store_at ls (laid l m) a w (fit_laid l ls m f) in
    grind (arith, nat_tests, overlay_set ls m a w, overlay_set ls m a l.value, set-set (overlay ls m) a l.value w)

-- where the lines are, and which are tagged, once a line is added or changed

pub has_line_append : (ls : List Line) (l : Line) (a : ℕ) → has_line (ls ++ l ∷ []) a ≡ (eqb l.address a || has_line ls a)
has_line_append [] l a = refl
has_line_append (k ∷ ls) l a = grind (arith, has_line_append ls l a)

pub tagged_append : (ls : List Line) (l : Line) (a : ℕ) → tagged (ls ++ l ∷ []) a ≡ ((eqb l.address a && l.tag) || tagged ls a)
tagged_append [] l a = refl
tagged_append (k ∷ ls) l a = grind (arith, tagged_append ls l a)

pub has_line_store_at : (ls : List Line) (a w b : ℕ) → has_line (store_at ls a w) b ≡ has_line ls b
has_line_store_at [] a w b = refl
has_line_store_at (l ∷ ls) a w b = grind (arith, has_line_store_at ls a w b)

pub tagged_store_at : (ls : List Line) (a w b : ℕ) → tagged (store_at ls a w) b ≡ tagged ls b
tagged_store_at [] a w b = refl
tagged_store_at (l ∷ ls) a w b = grind (arith, tagged_store_at ls a w b)

-- the lines fit once a line is added or changed

pub fit_append : (ls : List Line) (l : Line) (m : List ℕ) → Fit m ls → Fits m l → has_line ls l.address ≡ false → Fit m (ls ++ l ∷ [])
fit_append [] l m f g h = (g, refl, tt)
fit_append (k ∷ ls) l m f g h = grind (arith, nat_tests, has_line_append ls l k.address, fit_append ls l m)

pub fit_store_at : (ls : List Line) (a w : ℕ) (m : List ℕ) → Fit m ls → Fit m (store_at ls a w)
fit_store_at [] a w m f = tt
fit_store_at (l ∷ ls) a w m f = grind (arith, has_line_store_at ls a w l.address, fit_store_at ls a w m)

-- lines that fit a memory fit one that agrees with it
pub fit_agree : (ls : List Line) (m m' : List ℕ) → Fit m ls → length m' ≡ length m → Agree ls m m' → Fit m' ls
fit_agree [] m m' f n h = tt
fit_agree (l ∷ ls) m m' f n h = grind (arith, nat_tests, fit_agree ls m m')
