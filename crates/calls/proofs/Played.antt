-- Playing one word after the other.
-- Assumes nothing.
use Rattle.std.proofs.Common.{◌≡◌, ℕ, zero, suc, ◌+◌, ◌*◌, ◌/◌, ◌<◌, ◌≤◌, min, ◌⊎◌, List, [], ◌∷◌, ◌++◌, length, get_or, take, drop, Ok}
use Rattle.std.proofs.Common.{Err, Result, sym, refl, ap, ◌∙◌, inl, inr, append_assoc, append-nil, arith, length-append, length-take-le}
use Rattle.std.proofs.Common.{take_all, drop-drop, take_at}
use lib.Seq.{drop-append-add}
use Rattle.std.proofs.lemmas.List.{take_more, get_or-take}
use Rattle.std.proofs.lemmas.Bool.{cases_lt}
use Rattle.std.specs.Int.{from_be_bytes, w32}
use Rattle.std.specs.Simd.{first_chunks}
use Rattle.memory.specs.Bytes.{word_of, words_in, pasted}
use Rattle.memory.proofs.Quads.{words_length}
use Rattle.model.specs.declared.call.Call.{Call}
use Rattle.model.specs.declared.call.Reply.{Reply}
use Rattle.model.specs.declared.call.Reply.TheVariants.{Stepped, Cleared, Held, Word, GivenBack, Taken}
use Rattle.model.specs.Engine.{Engine}
use Rattle.model.specs.Runs.{reply, plays}
use Rattle.calls.specs.declared.call.CallFault.{CallFault}
use Rattle.calls.specs.Calls.{call_of}
use Rattle.calls.specs.Replies.{reply_bytes}
use Rattle.calls.specs.Playing.{answered, after, answers_of, call_then, calls_in, words_played, answers_left}

-- the word of a chunk of four bytes is the one at its place
word_of_chunk : (a b c d : ℕ) → from_be_bytes w32 (a ∷ b ∷ c ∷ d ∷ []) ≡ word_of a b c d
word_of_chunk a b c d = omega arith

in_chunks : (bs : List ℕ) (k i : ℕ) (none : List ℕ) → i < k → k ≤ length (words_in bs) → from_be_bytes w32 (get_or (first_chunks 4 k bs) i none) ≡ get_or (words_in bs) i 0
in_chunks bs zero i none h few = absurd (omega arith)
in_chunks [] (suc k) i none h few = absurd (omega arith)
in_chunks (a ∷ []) (suc k) i none h few = absurd (omega arith)
in_chunks (a ∷ b ∷ []) (suc k) i none h few = absurd (omega arith)
in_chunks (a ∷ b ∷ c ∷ []) (suc k) i none h few = absurd (omega arith)
in_chunks (a ∷ b ∷ c ∷ d ∷ rest) (suc k) zero none h few = word_of_chunk a b c d
in_chunks (a ∷ b ∷ c ∷ d ∷ rest) (suc k) (suc i) none h few = in_chunks rest k i none (omega arith) (omega arith)

pub chunk_word : (bs : List ℕ) (chunks : List (List ℕ)) (count i : ℕ) (none : List ℕ) → chunks ≡ first_chunks 4 (length bs / 4) bs → i < count → count ≤ length bs / 4 → from_be_bytes w32 (get_or (take count chunks) i none) ≡ get_or (words_in bs) i 0
chunk_word bs chunks count i none are h few =
    let n = words_length bs in
    ap (from_be_bytes w32) (get_or-take count chunks i none h ∙ ap (λ l. get_or l i none) are) ∙ in_chunks bs (length bs / 4) i none (omega arith) (omega arith)

-- a reply is eight bytes
reply_eight : (r : Reply) → length (reply_bytes r) ≡ 8
reply_eight (Stepped (Ok a)) = refl
reply_eight (Stepped (Err x)) = refl
reply_eight (Cleared (Ok u)) = refl
reply_eight (Cleared (Err x)) = refl
reply_eight (Held (Ok u)) = refl
reply_eight (Held (Err x)) = refl
reply_eight (Word (Ok w)) = refl
reply_eight (Word (Err x)) = refl
reply_eight (GivenBack (Ok u)) = refl
reply_eight (GivenBack (Err x)) = refl
reply_eight (Taken (Ok x)) = refl
reply_eight (Taken (Err x)) = refl

answered_eight : (e : Engine) (r : Result Call CallFault) → length (answered e r) ≡ 8
answered_eight e (Ok c) = reply_eight (reply e c)
answered_eight e (Err f) = refl

-- the engine after some words
pub afters : Engine → List ℕ → Engine
afters e [] = e
afters e (w ∷ ws) = afters (after e (call_of w)) ws

afters_push : (e : Engine) (ws : List ℕ) (w : ℕ) → afters e (ws ++ (w ∷ [])) ≡ after (afters e ws) (call_of w)
unfolding afters
afters_push e [] w = refl
afters_push e (x ∷ ws) w = afters_push (after e (call_of x)) ws w

-- that is the engine after the calls among them
then_plays : (e : Engine) (r : Result Call CallFault) (cs : List Call) → plays (after e r) cs ≡ plays e (call_then r cs)
then_plays e (Ok c) cs = refl
then_plays e (Err f) cs = refl

afters_plays : (e : Engine) (ws : List ℕ) → afters e ws ≡ plays e (calls_in ws)
unfolding afters
afters_plays e [] = refl
afters_plays e (w ∷ ws) = afters_plays (after e (call_of w)) ws ∙ then_plays e (call_of w) (calls_in ws)

answers_push : (e : Engine) (ws : List ℕ) (w : ℕ) → answers_of e (ws ++ (w ∷ [])) ≡ answers_of e ws ++ answered (afters e ws) (call_of w)
unfolding afters
answers_push e [] w = append-nil (answered e (call_of w))
answers_push e (x ∷ ws) w =
    ap (λ l. answered e (call_of x) ++ l) (answers_push (after e (call_of x)) ws w) ∙ sym (append_assoc (answered e (call_of x)) _ _)

answers_length : (e : Engine) (ws : List ℕ) → length (answers_of e ws) ≡ 8 * length ws
answers_length e [] = refl
answers_length e (w ∷ ws) =
    let h = answers_length (after e (call_of w)) ws in
    let k = answered_eight e (call_of w) in
    simp length-append (omega arith)

-- eight bytes put behind those that stand
put_next : (front new olds : List ℕ) (at : ℕ) → length front ≡ at → length new ≡ 8 → pasted (front ++ drop at olds) at new ≡ (front ++ new) ++ drop (at + 8) olds
put_next front new olds at h k =
    let e : at + length new ≡ length front + 8 = omega arith in
    let t : take at (front ++ drop at olds) ≡ front = take_at front (drop at olds) at h in
    let d : drop (at + length new) (front ++ drop at olds) ≡ drop (at + 8) olds =
    ap (λ n. drop n (front ++ drop at olds)) e ∙ drop-append-add front (drop at olds) 8 ∙ drop-drop 8 at olds in
    rw (t, d) (sym (append_assoc front new (drop (at + 8) olds)))

-- so many words of a list are played
pub record Sofar (start : Engine) (ws olds : List ℕ) (i : ℕ) (now : Engine) (news : List ℕ) : Type 0 where
  pub engine : now ≡ afters start (take i ws)
  pub filled : news ≡ answers_of start (take i ws) ++ drop (8 * i) olds

-- none yet
pub sofar_none : (start : Engine) (ws olds : List ℕ) → Sofar start ws olds 0 start olds
unfolding afters
sofar_none start ws olds = record { engine = refl; filled = refl }

-- one more
pub sofar_more : (start now next : Engine) (ws olds news later bytes : List ℕ) (i w : ℕ) → i < length ws → w ≡ get_or ws i 0 → next ≡ after now (call_of w) → bytes ≡ answered now (call_of w) → later ≡ pasted news (8 * i) bytes → Sofar start ws olds i now news → Sofar start ws olds (i + 1) next later
sofar_more start now next ws olds news later bytes i w h at acts answers put s =
    let more : take (i + 1) ws ≡ take i ws ++ (w ∷ []) = take_more ws i 0 h ∙ ap (λ x. take i ws ++ (x ∷ [])) (sym at) in
    let front = answers_of start (take i ws) in
    let long : length front ≡ 8 * i = answers_length start (take i ws) ∙ ap (λ n. 8 * n) (length-take-le i ws (omega arith)) in
    let said : bytes ≡ answered (afters start (take i ws)) (call_of w) = answers ∙ ap (λ e. answered e (call_of w)) s.engine in
    let eight : length bytes ≡ 8 = ap length answers ∙ answered_eight now (call_of w) in
    record {
      engine = acts ∙ ap (λ e. after e (call_of w)) s.engine ∙ sym (ap (afters start) more ∙ afters_push start (take i ws) w);
      filled = put ∙ ap (λ l. pasted l (8 * i) bytes) s.filled
          ∙ put_next front bytes olds (8 * i) long eight
          ∙ ap (λ l. (front ++ l) ++ drop (8 * i + 8) olds) said
          ∙ ap (λ l. l ++ drop (8 * i + 8) olds) (sym (ap (answers_of start) more ∙ answers_push start (take i ws) w))
          ∙ ap (λ n. answers_of start (take (i + 1) ws) ++ drop n olds) (omega arith);
    }

-- all that are to be played
pub record All (start now : Engine) (calls olds : List ℕ) (i : ℕ) (news : List ℕ) : Type 0 where
  pub engine : now ≡ plays start (calls_in (words_played calls olds))
  pub count : length (words_played calls olds) ≡ i
  pub filled : news ≡ answers_left start (words_played calls olds) olds

pub sofar_all : (made start now : Engine) (calls olds news : List ℕ) (i : ℕ) → i ≡ min (length calls / 4) (length olds / 8) → start ≡ made → Sofar start (words_in calls) olds i now news → All made now calls olds i news
sofar_all made start now calls olds news i at new s =
    let n = words_length calls in
    let front : take i (words_in calls) ≡ words_played calls olds = fronts (cases_lt (length olds / 8) (length (words_in calls))) in
    let long : length (words_played calls olds) ≡ i = sym (ap length front) ∙ length-take-le i (words_in calls) (omega arith) in
    record {
      engine = s.engine ∙ ap (afters start) front ∙ afters_plays start (words_played calls olds) ∙ ap (λ e. plays e (calls_in (words_played calls olds))) new;
      count = long;
      filled = s.filled
          ∙ ap (λ l. answers_of start l ++ drop (8 * i) olds) front
          ∙ ap (λ k. answers_of start (words_played calls olds) ++ drop (8 * k) olds) (sym long)
          ∙ ap (λ e. answers_left e (words_played calls olds) olds) new;
    }
  where
    fronts : (length olds / 8 < length (words_in calls)) ⊎ (length (words_in calls) ≤ length olds / 8) → take i (words_in calls) ≡ words_played calls olds
    fronts (inl h) = let n = words_length calls in ap (λ k. take k (words_in calls)) (omega arith)
    fronts (inr h) = let n = words_length calls in take_all i (words_in calls) (omega arith) ∙ sym (take_all (length olds / 8) (words_in calls) h)
