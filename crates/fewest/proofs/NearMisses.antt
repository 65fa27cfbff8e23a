-- Joining neighbours falls short, and the usual choice gives another table. Assumes nothing.
use Rattle.std.proofs.Common.{◌≡◌, ℕ, ◌<◌, ◌≤◌, true, false, eqb, leb, ◌⊎◌, List, [], ◌∷◌, length, sym, refl, ap, ◌∙◌, subst, ap₂, inl, inr, ⊎_elim, arith, length-append}
use Rattle.std.proofs.lemmas.Bool.{and_parts, and_left, and_right, or_from, cases_Bool, cond-false, eqb-true, leb-true}
use Rattle.std.proofs.lemmas.Bool.Decides.{nat_tests}
use Rattle.prefix.specs.Bits.{Bits, begins, same, before}
use Rattle.table.specs.Examples.{line}
use Rattle.table.specs.Tables.{Entry, Entries, find, SendSame, has, distinct, every, sound, holds, without, insert}
use Rattle.fewest.specs.Trees.{tree_at, tree_of, first, hops, all_to}
use Rattle.fewest.specs.Needs.{lowest_over, need, fewest}
use Rattle.fewest.specs.Prescribed.{beneath, best_of, prescribed}
use Rattle.fewest.specs.NearMisses.{lower, joinable, join, join_all, quartered, halved, JoiningFallsShort, eager, partly, EagerIsAnother}

-- a prefix longer than all of a table is none of its
same_longer : (q p : Bits) → length p < length q → same q p ≡ false
unfolding same
same_longer [] p h = absurd (omega arith)
same_longer (x ∷ q) [] h = refl
same_longer (x ∷ q) (y ∷ p) h = and_right _ _ (same_longer q p (omega arith))

holds_longer : (w : ℕ) (q : Bits) (x : ℕ) (t : Entries) → w < length q → every (λ e. leb (length e.prefix) w) t ≡ true → holds (line q x) t ≡ false
unfolding holds every
holds_longer w q x [] h a = refl
holds_longer w q x (e ∷ es) h a =
    let two = and_parts (leb (length e.prefix) w) (every (λ d. leb (length d.prefix) w) es) a in
    or_from _ _ (and_left _ _ (same_longer q e.prefix (omega (arith, leb-true _ _ two.0)))) (holds_longer w q x es h two.1)

joinable_longer : (w : ℕ) (p : Bits) (x : ℕ) (t : Entries) → w ≤ length p → every (λ e. leb (length e.prefix) w) t ≡ true → joinable (line p x) t ≡ false
joinable_longer w p x t h a = and_left _ _ (holds_longer w (lower p) x t (omega (arith, length-append p (false ∷ []))) a)

-- what can be joined in the first table,
first_join : (p : Bits) (x : ℕ) → (joinable (line p x) quartered ≡ false) ⊎ ((p ≡ false ∷ false ∷ []) × (x ≡ 1))
unfolding holds same
first_join [] x = inl refl
first_join (false ∷ []) x = inl refl
first_join (true ∷ []) x = inl refl
first_join (false ∷ false ∷ []) x = ⊎_elim
    (λ (e : eqb x 1 ≡ true). inr (refl, eqb-true x 1 e))
    (λ (e : eqb x 1 ≡ false). inl (rw e))
    (cases_Bool (eqb x 1))
first_join (false ∷ true ∷ []) x = inl refl
first_join (true ∷ false ∷ []) x = inl refl
first_join (true ∷ true ∷ []) x = inl refl
first_join (a ∷ b ∷ c ∷ p) x = inl (joinable_longer 3 (a ∷ b ∷ c ∷ p) x quartered (omega arith) (unfold every in refl))

-- and in the second
second_join : (p : Bits) (x : ℕ) → joinable (line p x) halved ≡ false
unfolding holds same
second_join [] x = refl
second_join (false ∷ []) x = grind (arith, nat_tests)
second_join (true ∷ []) x = refl
second_join (a ∷ b ∷ p) x = joinable_longer 2 (a ∷ b ∷ p) x halved (omega arith) (unfold every in refl)

joined_once : join (line (false ∷ false ∷ []) 1) quartered ≡ halved
unfolding holds same without insert before
joined_once = refl

join_none : (e : Entry) (t : Entries) → joinable e t ≡ false → join e t ≡ t
join_none e t i = cond-false _ _ _ i

stuck : (es : List Entry) → join_all es halved ≡ halved
unfolding join_all
stuck [] = refl
stuck (e ∷ es) = ap (join_all es) (join_none e halved (second_join e.prefix e.hop)) ∙ stuck es

joins : (es : List Entry) → (join_all es quartered ≡ quartered) ⊎ (join_all es quartered ≡ halved)
unfolding join_all
joins [] = inl refl
joins (e ∷ es) = step (first_join e.prefix e.hop) (joins es)
  where
    step : (joinable e quartered ≡ false) ⊎ ((e.prefix ≡ false ∷ false ∷ []) × (e.hop ≡ 1)) → (join_all es quartered ≡ quartered) ⊎ (join_all es quartered ≡ halved) →
        (join_all es (join e quartered) ≡ quartered) ⊎ (join_all es (join e quartered) ≡ halved)
    step (inl i) r = subst (λ (u : Entries). (join_all es u ≡ quartered) ⊎ (join_all es u ≡ halved)) (sym (join_none e quartered i)) r
    step (inr i) r =
        let once : join e quartered ≡ halved = ap₂ (λ (p : Bits) (x : ℕ). join (line p x) quartered) i.0 i.1 ∙ joined_once in
        inr (ap (join_all es) once ∙ stuck es)

sends_same : SendSame 3 quartered halved
unfolding find begins
sends_same [] n = absurd (omega arith)
sends_same (a ∷ []) n = absurd (omega arith)
sends_same (a ∷ b ∷ []) n = absurd (omega arith)
sends_same (false ∷ false ∷ false ∷ []) n = refl
sends_same (false ∷ false ∷ true ∷ []) n = refl
sends_same (false ∷ true ∷ false ∷ []) n = refl
sends_same (false ∷ true ∷ true ∷ []) n = refl
sends_same (true ∷ false ∷ false ∷ []) n = refl
sends_same (true ∷ false ∷ true ∷ []) n = refl
sends_same (true ∷ true ∷ false ∷ []) n = refl
sends_same (true ∷ true ∷ true ∷ []) n = refl
sends_same (a ∷ b ∷ c ∷ d ∷ e) n = absurd (omega arith)

two_are_enough : fewest 3 quartered ≡ 2
unfolding find begins tree_at first hops all_to lowest_over need
two_are_enough = refl

is_sound : sound 3 quartered ≡ true
unfolding has same distinct every
is_sound = refl

pub falls_short : JoiningFallsShort
falls_short = (
  is_sound,
  joined_once,
  sends_same,
  λ es. ⊎_elim
      (λ (e : join_all es quartered ≡ quartered). rw (two_are_enough, e) (omega arith))
      (λ (e : join_all es quartered ≡ halved). rw (two_are_enough, e) (omega arith))
      (joins es),
)

-- the usual choice, by computing
eager_sends : SendSame 2 partly (eager (tree_of 2 partly) 0)
unfolding find begins tree_at first hops all_to lowest_over need beneath best_of eager
eager_sends [] n = absurd (omega arith)
eager_sends (a ∷ []) n = absurd (omega arith)
eager_sends (false ∷ false ∷ []) n = refl
eager_sends (false ∷ true ∷ []) n = refl
eager_sends (true ∷ false ∷ []) n = refl
eager_sends (true ∷ true ∷ []) n = refl
eager_sends (a ∷ b ∷ c ∷ d) n = absurd (omega arith)

pub eager_is_another : EagerIsAnother
unfolding find begins has same distinct every tree_at first hops all_to lowest_over need beneath best_of prescribed eager
eager_is_another = (refl, refl, refl, eager_sends, refl)
