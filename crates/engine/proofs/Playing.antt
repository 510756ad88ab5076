-- Playing one call after the other.
-- Assumes nothing.
use Rattle.std.proofs.Common.{◌≡◌, ℕ, suc, ◌+◌, ◌<◌, ◌≤◌, min, ◌⊎◌, List, [], ◌∷◌, ◌++◌, length, get_or, take, drop, set, sym, refl, ap}
use Rattle.std.proofs.Common.{◌∙◌, inl, inr, append_assoc, arith, length-take-le, take_all}
use lib.Seq.{set_at}
use Rattle.std.proofs.lemmas.List.{take_more, drop_more}
use Rattle.std.proofs.lemmas.Bool.{cases_lt}
use Rattle.model.specs.declared.call.Call.{Call}
use Rattle.model.specs.declared.call.Reply.{Reply}
use Rattle.model.specs.Engine.{Engine}
use Rattle.model.specs.Runs.{reply, played, replies, plays}
use Rattle.engine.specs.Engines.{playable}

plays_push : (e : Engine) (cs : List Call) (c : Call) → plays e (cs ++ (c ∷ [])) ≡ played (plays e cs) c
plays_push e [] c = refl
plays_push e (d ∷ cs) c = plays_push (played e d) cs c

replies_push : (e : Engine) (cs : List Call) (c : Call) → replies e (cs ++ (c ∷ [])) ≡ replies e cs ++ (reply (plays e cs) c ∷ [])
replies_push e [] c = refl
replies_push e (d ∷ cs) c = ap (λ l. reply e d ∷ l) (replies_push (played e d) cs c)

replies_length : (e : Engine) (cs : List Call) → length (replies e cs) ≡ length cs
replies_length e [] = refl
replies_length e (c ∷ cs) = ap suc (replies_length (played e c) cs)

-- so many calls of a list are played
pub record Sofar (start : Engine) (calls : List Call) (olds : List Reply) (i : ℕ) (now : Engine) (news : List Reply) : Type 0 where
  pub engine : now ≡ plays start (take i calls)
  pub filled : news ≡ replies start (take i calls) ++ drop i olds

-- none yet
pub sofar_none : (start : Engine) (calls : List Call) (olds : List Reply) → Sofar start calls olds 0 start olds
sofar_none start calls olds = record { engine = refl; filled = refl }

-- one more
pub sofar_more : (start now after : Engine) (calls : List Call) (olds news : List Reply) (i : ℕ) (d : Call) (r : Reply) → i < length calls → i < length olds → after ≡ played now (get_or calls i d) → r ≡ reply now (get_or calls i d) → Sofar start calls olds i now news → Sofar start calls olds (i + 1) after (set news i r)
sofar_more start now after calls olds news i d r h k acts answers s =
    let c : Call = get_or calls i d in
    let more : take (i + 1) calls ≡ take i calls ++ (c ∷ []) = take_more calls i d h in
    let long : length (replies start (take i calls)) ≡ i = replies_length start (take i calls) ∙ length-take-le i calls (omega arith) in
    let said : r ≡ reply (plays start (take i calls)) c = answers ∙ ap (λ e. reply e c) s.engine in
    record {
      engine = acts ∙ ap (λ e. played e c) s.engine ∙ sym (ap (plays start) more ∙ plays_push start (take i calls) c);
      filled = ap (λ l. set l i r) (s.filled ∙ ap (λ l. replies start (take i calls) ++ l) (drop_more olds i r k))
          ∙ set_at (replies start (take i calls)) (get_or olds i r) (drop (i + 1) olds) r i long
          ∙ ap (λ x. replies start (take i calls) ++ (x ∷ drop (i + 1) olds)) said
          ∙ sym (append_assoc (replies start (take i calls)) (reply (plays start (take i calls)) c ∷ []) (drop (i + 1) olds))
          ∙ ap (λ l. l ++ drop (i + 1) olds) (sym (ap (replies start) more ∙ replies_push start (take i calls) c));
    }

-- all that are to be played
pub record All (start : Engine) (calls : List Call) (olds : List Reply) (now : Engine) (news : List Reply) : Type 0 where
  pub engine : now ≡ plays start (playable calls olds)
  pub filled : news ≡ replies start (playable calls olds) ++ drop (length (playable calls olds)) olds

pub sofar_all : (start now : Engine) (calls : List Call) (olds news : List Reply) (i : ℕ) → i ≡ min (length calls) (length olds) → Sofar start calls olds i now news → All start calls olds now news
sofar_all start now calls olds news i at s =
    let front : take i calls ≡ playable calls olds = fronts (cases_lt (length olds) (length calls)) in
    let long : length (playable calls olds) ≡ i = sym (ap length front) ∙ length-take-le i calls (omega arith) in
    record {
      engine = s.engine ∙ ap (plays start) front;
      filled = s.filled ∙ ap (λ l. replies start l ++ drop i olds) front ∙ ap (λ n. replies start (playable calls olds) ++ drop n olds) (sym long);
    }
  where
    fronts : (length olds < length calls) ⊎ (length calls ≤ length olds) → take i calls ≡ take (length olds) calls
    fronts (inl h) = ap (λ n. take n calls) (omega arith)
    fronts (inr h) = take_all i calls (omega arith) ∙ sym (take_all (length olds) calls h)
