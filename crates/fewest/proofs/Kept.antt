-- Need by its lowest value and the next hops that reach it; how both come from two halves; the choice in these terms. Assumes nothing.
use Rattle.std.proofs.Common.{◌≡◌, ℕ, suc, ◌+◌, ◌<◌, ◌≤◌, min, Bool, true, false, cond, not, ◌&&◌, ◌||◌, eqb, ltb, [], ◌∷◌, Some, None, Option, sym, refl, ap, ◌∙◌, ap₂, ⊎_elim, arith}
use Rattle.std.proofs.lemmas.Bool.{or_cases, or_left, cases_Bool, cond-true, cond-false, eq-eqb, eqb-true, eqb-false, ne_eqb, and_parts, and_from, both_ways, not-true, not-false, not_from_false, le-ltb, lt-ltb, cases_lt}
use Rattle.std.proofs.lemmas.Bool.Decides.{nat_tests}
use Rattle.table.specs.Examples.{line}
use Rattle.table.specs.Tables.{Entries}
use Rattle.fewest.specs.Trees.{Tree, Leaf, Fork, first, hops, elem, all_to, uniform}
use Rattle.fewest.specs.Needs.{unlike, need, least, reaches, both, meet}
use Rattle.fewest.specs.Prescribed.{beneath, forked, single, below, lowest_below, best, prescribed}
use Rattle.fewest.specs.Laws.{LeastIs, Determined, UniformKept, MeetIs, Joined, Chooses, lines_by, Chosen}
use Rattle.fewest.proofs.Lowest.{lowest_elem, lowest_from, some_elem, elem_some}
use Rattle.fewest.proofs.Forks.{fork_low, fork_high, first_in, all_first, all_need, best_wins_at, best_lowest, best_one, lowest_at, lowest_over_lem, need_fork, all_prescribed, prescribed_by}

-- a number and a set of next hops say how few lines a tree needs
pub record Says (t : Tree) (n : ℕ) (s : ℕ → Bool) : Type 0 where
  pub says : (h : ℕ) → need t h ≡ cond (s h) n (suc n)
  pub inside : (k : ℕ) → s k ≡ true → elem k (hops t) ≡ true
  pub one : (k : ℕ) × (s k ≡ true)

above : (n m : ℕ) (b : Bool) → m ≡ cond b n (suc n) → n ≤ m
above n m b e = grind arith

-- they are the lowest need and the next hops that reach it
pub says_least : (t : Tree) (n : ℕ) (s : ℕ → Bool) → Says t n s → least t ≡ n
says_least t n s k =
    let over : (h : ℕ) → n ≤ need t h = λ h. above n (need t h) (s h) (k.says h) in
    let low : least t ≤ need t k.one.0 = lowest_elem (need t) (need t (first t)) (hops t) k.one.0 (k.inside k.one.0 k.one.1) in
    let here : need t k.one.0 ≡ n = k.says k.one.0 ∙ cond-true _ _ _ k.one.1 in
    let high : n ≤ least t = lowest_from (need t) (need t (first t)) (hops t) n (over (first t)) (λ j _. over j) in
    omega arith

pub says_reaches : (t : Tree) (n : ℕ) (s : ℕ → Bool) → Says t n s → (h : ℕ) → reaches t h ≡ s h
says_reaches t n s k h = core n (need t h) (least t) (s h) (k.says h) (says_least t n s k)
  where
    core : (n m l : ℕ) (b : Bool) → m ≡ cond b n (suc n) → l ≡ n → eqb m l ≡ b
    core n m l true e i = eq-eqb m l (e ∙ sym i)
    core n m l false e i = ne_eqb m l (λ j. omega arith)

says_own : (t : Tree) (n : ℕ) (s : ℕ → Bool) → Says t n s → Says t (least t) (reaches t)
says_own t n s k =
    let r : (h : ℕ) → reaches t h ≡ s h = says_reaches t n s k in
    let l : least t ≡ n = says_least t n s k in
    record {
      says = λ h. k.says h ∙ sym (ap₂ (λ (b : Bool) (m : ℕ). cond b m (suc m)) (r h) l);
      inside = λ h e. k.inside h (sym (r h) ∙ e);
      one = (k.one.0, r k.one.0 ∙ k.one.1);
    }

-- trees of one next hop
same_hop : (x h : ℕ) → unlike x h ≡ cond (eqb h x) 0 1
same_hop x h = grind (arith, nat_tests)

all_inside : (x : ℕ) (t : Tree) (k : ℕ) → all_to x t ≡ true → eqb k x ≡ true → elem k (hops t) ≡ true
all_inside x t k e i = rw (eqb-true k x i, ← (all_first x t e)) (first_in t)

all_says : (x : ℕ) (t : Tree) → all_to x t ≡ true → Says t 0 (λ k. eqb k x)
all_says x t e = record {
  says = λ h. all_need x t h e ∙ same_hop x h;
  inside = λ k i. all_inside x t k e i;
  one = (x, eq-eqb x x refl);
}

pub uniform_kept : UniformKept
uniform_kept x t e = (says_least t 0 (λ k. eqb k x) (all_says x t e), says_reaches t 0 (λ k. eqb k x) (all_says x t e))

-- two halves that meet at k
meets_core : (a b : Bool) (l r n m f : ℕ) → n ≡ cond a l (suc l) → m ≡ cond b r (suc r) → f ≡ min (n + m) (1 + (l + r)) →
    f ≡ cond (a && b) (l + r) (suc (l + r))
meets_core a b l r n m f p q e = grind arith

in_both : (a b : Bool) (l r n m : ℕ) → n ≡ cond a l (suc l) → m ≡ cond b r (suc r) → (a && b) ≡ true → n + m ≡ l + r
in_both a b l r n m p q e = grind arith

not_both : (a b : Bool) (l r n m : ℕ) → n ≡ cond a l (suc l) → m ≡ cond b r (suc r) → (a && b) ≡ false → l + r + 1 ≤ n + m
not_both a b l r n m p q e = grind arith

pub fork_meets : (l r : Tree) → Says l (least l) (reaches l) → Says r (least r) (reaches r) → (k : ℕ) → both l r k ≡ true → Says (Fork l r) (least l + least r) (both l r)
fork_meets l r p q k e =
    let inside : (j : ℕ) → both l r j ≡ true → elem j (hops (Fork l r)) ≡ true =
    λ j i. fork_low l r j (p.inside j (and_parts (reaches l j) (reaches r j) i).0) in
    let at_k : below l r k ≡ least l + least r = in_both (reaches l k) (reaches r k) (least l) (least r) (need l k) (need r k) (p.says k) (q.says k) e in
    let low : lowest_below l r ≤ below l r k = lowest_at l r k (inside k e) in
    let high : least l + least r ≤ lowest_below l r =
    lowest_over_lem l r (least l + least r) (λ j _. omega (arith, above (least l) (need l j) (reaches l j) (p.says j), above (least r) (need r j) (reaches r j) (q.says j))) in
    let is : lowest_below l r ≡ least l + least r = omega arith in
    record {
      says = λ h. meets_core (reaches l h) (reaches r h) (least l) (least r) (need l h) (need r h) (need (Fork l r) h) (p.says h) (q.says h)
          (need_fork l r h ∙ ap (λ (n : ℕ). min (below l r h) (1 + n)) is);
      inside = inside;
      one = (k, e);
    }

-- two halves that do not meet
apart_core : (a b : Bool) (l r n m f : ℕ) → n ≡ cond a l (suc l) → m ≡ cond b r (suc r) → (a && b) ≡ false → f ≡ min (n + m) (1 + (l + r + 1)) →
    f ≡ cond (a || b) (l + r + 1) (suc (l + r + 1))
apart_core a b l r n m f p q e i = grind arith

in_one : (a b : Bool) (l r n m : ℕ) → n ≡ cond a l (suc l) → m ≡ cond b r (suc r) → a ≡ true → (a && b) ≡ false → n + m ≡ l + r + 1
in_one a b l r n m p q e i = grind arith

pub fork_apart : (l r : Tree) → Says l (least l) (reaches l) → Says r (least r) (reaches r) → ((k : ℕ) → both l r k ≡ false) →
    Says (Fork l r) (least l + least r + 1) (λ k. reaches l k || reaches r k)
fork_apart l r p q none =
    let inside : (j : ℕ) → (reaches l j || reaches r j) ≡ true → elem j (hops (Fork l r)) ≡ true =
    λ j i. ⊎_elim (λ e. fork_low l r j (p.inside j e)) (λ e. fork_high l r j (q.inside j e)) (or_cases (reaches l j) (reaches r j) i) in
    let k : ℕ = p.one.0 in
    let at_k : below l r k ≡ least l + least r + 1 =
    in_one (reaches l k) (reaches r k) (least l) (least r) (need l k) (need r k) (p.says k) (q.says k) p.one.1 (none k) in
    let here : (reaches l k || reaches r k) ≡ true = or_left (reaches l k) (reaches r k) p.one.1 in
    let low : lowest_below l r ≤ below l r k = lowest_at l r k (inside k here) in
    let high : least l + least r + 1 ≤ lowest_below l r =
    lowest_over_lem l r (least l + least r + 1) (λ j _. not_both (reaches l j) (reaches r j) (least l) (least r) (need l j) (need r j) (p.says j) (q.says j) (none j)) in
    let is : lowest_below l r ≡ least l + least r + 1 = omega arith in
    record {
      says = λ h. apart_core (reaches l h) (reaches r h) (least l) (least r) (need l h) (need r h) (need (Fork l r) h) (p.says h) (q.says h) (none h)
          (need_fork l r h ∙ ap (λ (n : ℕ). min (below l r h) (1 + n)) is);
      inside = inside;
      one = (k, here);
    }

-- whether they meet
meet_some : (l r : Tree) → meet l r ≡ true → (k : ℕ) × (both l r k ≡ true)
meet_some l r e = let k = some_elem (both l r) (hops l) e in (k.0, k.2)

meet_none : (l r : Tree) → Says l (least l) (reaches l) → meet l r ≡ false → (k : ℕ) → both l r k ≡ false
meet_none l r p e k = ⊎_elim
    (λ (i : both l r k ≡ true). absurd (both_ways (meet l r) e (elem_some (both l r) (hops l) k (p.inside k (and_parts (reaches l k) (reaches r k) i).0) i)))
    (λ (i : both l r k ≡ false). i)
    (cases_Bool (both l r k))

pub says : (t : Tree) → Says t (least t) (reaches t)
says (Leaf x) = says_own (Leaf x) 0 (λ k. eqb k x) (all_says x (Leaf x) (unfold all_to in eq-eqb x x refl))
says (Fork l r) = step (meet l r) refl (says l) (says r)
  where
    step : (b : Bool) → meet l r ≡ b → Says l (least l) (reaches l) → Says r (least r) (reaches r) → Says (Fork l r) (least (Fork l r)) (reaches (Fork l r))
    step true e p q = let k = meet_some l r e in says_own (Fork l r) _ (both l r) (fork_meets l r p q k.0 k.1)
    step false e p q = says_own (Fork l r) _ (λ k. reaches l k || reaches r k) (fork_apart l r p q (meet_none l r p e))

pub determined : Determined
determined t h = (says t).says h

pub least_is : LeastIs
least_is t = (λ h. above (least t) (need t h) (reaches t h) (determined t h), (says t).one, (says t).inside)

pub meet_is : MeetIs
meet_is l r = (meet_some l r, meet_none l r (says l))

-- if some next hop reaches both, they meet
pub meet_from : (l r : Tree) (k : ℕ) → both l r k ≡ true → meet l r ≡ true
meet_from l r k e = ⊎_elim (λ (i : meet l r ≡ true). i) (λ (i : meet l r ≡ false). absurd (both_ways (both l r k) ((meet_is l r).1 i k) e)) (cases_Bool (meet l r))

pub meet_not : (l r : Tree) → ((k : ℕ) → both l r k ≡ false) → meet l r ≡ false
meet_not l r f = ⊎_elim (λ (i : meet l r ≡ true). let k = meet_some l r i in absurd (both_ways (both l r k.0) (f k.0) k.1)) (λ i. i) (cases_Bool (meet l r))

pub joined : Joined
joined l r = (
  λ e. let k = meet_some l r e in
      let s = fork_meets l r (says l) (says r) k.0 k.1 in
      (says_least (Fork l r) _ (both l r) s, says_reaches (Fork l r) _ (both l r) s),
  λ e. let s = fork_apart l r (says l) (says r) ((meet_is l r).1 e) in
      (says_least (Fork l r) _ (λ k. reaches l k || reaches r k) s, says_reaches (Fork l r) _ (λ k. reaches l k || reaches r k) s),
)

-- THE CHOICE

-- whether a line is written at a fork to which one comes with h: the halves meet, and h reaches the lowest need of neither
abbrev pub writes : Tree → Tree → ℕ → Bool
writes l r h = meet l r && not (reaches l h || reaches r h)

-- where the halves meet, the best next hop is the lowest that reaches both
beside : (a b c d : Bool) (l r n m i j : ℕ) → n ≡ cond a l (suc l) → m ≡ cond b r (suc r) → i ≡ cond c l (suc l) → j ≡ cond d r (suc r) → (a && b) ≡ true →
    (n + m ≤ i + j) × (n + m ≡ i + j → (c && d) ≡ true)
beside a b c d l r n m i j p q u v e = (grind arith, λ (z : n + m ≡ i + j). grind arith)

pub best_both : (l r : Tree) (k : ℕ) → both l r k ≡ true → ((j : ℕ) → both l r j ≡ true → k ≤ j) → best l r ≡ k
best_both l r k e low =
    best_one l r k (fork_low l r k ((says l).inside k (and_parts (reaches l k) (reaches r k) e).0))
    (λ j _.
    let s = beside (reaches l k) (reaches r k) (reaches l j) (reaches r j) (least l) (least r) (need l k) (need r k) (need l j) (need r j)
    (determined l k) (determined r k) (determined l j) (determined r j) e in
    (s.0, λ z. low j (s.1 z)))

-- and it does reach both
pub best_reaches : (l r : Tree) → meet l r ≡ true → both l r (best l r) ≡ true
best_reaches l r e =
    let k = meet_some l r e in
    let i = fork_low l r k.0 ((says l).inside k.0 (and_parts (reaches l k.0) (reaches r k.0) k.1).0) in
    let a : below l r (best l r) ≤ below l r k.0 = omega (arith, best_lowest l r, lowest_at l r k.0 i) in
    let b : below l r k.0 ≡ least l + least r =
    in_both (reaches l k.0) (reaches r k.0) (least l) (least r) (need l k.0) (need r k.0) (determined l k.0) (determined r k.0) k.1 in
    ⊎_elim
    (λ (t : both l r (best l r) ≡ true). t)
    (λ (t : both l r (best l r) ≡ false).
    absurd (omega (arith, not_both (reaches l (best l r)) (reaches r (best l r)) (least l) (least r) (need l (best l r)) (need r (best l r)) (determined l (best l r)) (determined r (best l r)) t)))
    (cases_Bool (both l r (best l r)))

pub best_least : (l r : Tree) → meet l r ≡ true → (j : ℕ) → both l r j ≡ true → best l r ≤ j
best_least l r e j i = ⊎_elim
    (λ (h : j < best l r). absurd (contra h))
    (λ (h : best l r ≤ j). h)
    (cases_lt j (best l r))
  where
    contra : j < best l r → ⊥
    contra h =
        let s = beside (reaches l j) (reaches r j) (reaches l (best l r)) (reaches r (best l r)) (least l) (least r) (need l j) (need r j) (need l (best l r)) (need r (best l r))
        (determined l j) (determined r j) (determined l (best l r)) (determined r (best l r)) i in
        let k = fork_low l r j ((says l).inside j (and_parts (reaches l j) (reaches r j) i).0) in
        let w = best_wins_at l r j k in
        omega (arith, w.0, w.1, s.0)

-- a line is written exactly where it saves one
saves_core : (a b c : Bool) (l r n m low : ℕ) → n ≡ cond a l (suc l) → m ≡ cond b r (suc r) → (c ≡ true → low ≡ l + r) → (c ≡ false → l + r + 1 ≤ low) →
    (c && not (a || b)) ≡ ltb (1 + low) (n + m)
saves_core a b c l r n m low p q e i = grind (arith, nat_tests)

pub writes_saves : (l r : Tree) (h : ℕ) → writes l r h ≡ ltb (1 + lowest_below l r) (below l r h)
writes_saves l r h =
    saves_core (reaches l h) (reaches r h) (meet l r) (least l) (least r) (need l h) (need r h) (lowest_below l r) (determined l h) (determined r h)
    (λ e. sym (best_lowest l r) ∙ in_both (reaches l (best l r)) (reaches r (best l r)) (least l) (least r) (need l (best l r)) (need r (best l r)) (determined l (best l r)) (determined r (best l r)) (best_reaches l r e))
    (λ e. lowest_over_lem l r (least l + least r + 1)
    (λ j _. not_both (reaches l j) (reaches r j) (least l) (least r) (need l j) (need r j) (determined l j) (determined r j) ((meet_is l r).1 e j)))

pub single_none : (x h : ℕ) → eqb h x ≡ true → single x h ≡ []
single_none x h e = cond-true _ _ _ (eq-eqb x h (sym (eqb-true h x e)))

pub single_one : (x h : ℕ) → eqb h x ≡ false → single x h ≡ line [] x ∷ []
single_one x h e = cond-false _ _ _ (ne_eqb x h (λ i. eqb-false h x e (sym i)))

pub forked_none : forked [] [] ≡ []
unfolding beneath
forked_none = refl

-- a fork all of whose addresses go to x
module _ (l r : Tree) (h : ℕ) (e : uniform (Fork l r) ≡ true) where
  low_all : all_to (first (Fork l r)) l ≡ true
  unfolding all_to
  low_all = (and_parts (all_to (first (Fork l r)) l) (all_to (first (Fork l r)) r) e).0

  high_all : all_to (first (Fork l r)) r ≡ true
  unfolding all_to
  high_all = (and_parts (all_to (first (Fork l r)) l) (all_to (first (Fork l r)) r) e).1

  uniform_both : (k : ℕ) → both l r k ≡ eqb k (first (Fork l r))
  uniform_both k = ap₂ ◌&&◌ ((uniform_kept _ l low_all).1 k) ((uniform_kept _ r high_all).1 k) ∙ grind arith

  uniform_writes : writes l r h ≡ not (eqb h (first (Fork l r)))
  uniform_writes =
      ap₂ (λ (a b : Bool). a && not b)
      (meet_from l r (first (Fork l r)) (uniform_both (first (Fork l r)) ∙ eq-eqb (first (Fork l r)) (first (Fork l r)) refl))
      (ap₂ ◌||◌ ((uniform_kept _ l low_all).1 h) ((uniform_kept _ r high_all).1 h) ∙ grind arith)

  -- with its own next hop it has no lines
  uniform_none : (k : ℕ) → eqb k (first (Fork l r)) ≡ true → forked (prescribed l k) (prescribed r k) ≡ []
  uniform_none k i =
      ap₂ forked (all_prescribed _ l k low_all ∙ single_none _ k i) (all_prescribed _ r k high_all ∙ single_none _ k i) ∙ forked_none

pub stays : (l r : Tree) (h : ℕ) → writes l r h ≡ false → prescribed (Fork l r) h ≡ forked (prescribed l h) (prescribed r h)
stays l r h e =
    prescribed_by l r h (λ (u : Entries). u ≡ forked (prescribed l h) (prescribed r h))
    (λ i.
    let same : eqb h (first (Fork l r)) ≡ true = not-false _ (sym (uniform_writes l r h i) ∙ e) in
    single_none (first (Fork l r)) h same ∙ sym (uniform_none l r h i h same))
    (λ _. refl)
    (λ s. absurd (both_ways (writes l r h) e (writes_saves l r h ∙ lt-ltb _ _ s)))

pub writes_line : (l r : Tree) (h k : ℕ) → writes l r h ≡ true → both l r k ≡ true → ((j : ℕ) → both l r j ≡ true → k ≤ j) →
    prescribed (Fork l r) h ≡ line [] k ∷ forked (prescribed l k) (prescribed r k)
writes_line l r h k e b low =
    prescribed_by l r h (λ (u : Entries). u ≡ line [] k ∷ forked (prescribed l k) (prescribed r k))
    (λ i.
    let other : eqb h (first (Fork l r)) ≡ false = not-true _ (sym (uniform_writes l r h i) ∙ e) in
    let own : eqb k (first (Fork l r)) ≡ true = sym (uniform_both l r h i k) ∙ b in
    single_one (first (Fork l r)) h other ∙
    ap₂ (λ (x : ℕ) (u : Entries). line [] x ∷ u) (sym (eqb-true k (first (Fork l r)) own)) (sym (uniform_none l r h i k own)))
    (λ s. absurd (both_ways (writes l r h) (writes_saves l r h ∙ le-ltb _ _ s) e))
    (λ _. ap (λ (j : ℕ). line [] j ∷ forked (prescribed l j) (prescribed r j)) (best_both l r k b low))

-- the choice, by whether a line is written
some_choice : (l r : Tree) (h : ℕ) → (b : Bool) → writes l r h ≡ b → (c : Option ℕ) × Chooses (reaches l) (reaches r) h c
some_choice l r h true e =
    let two = and_parts (meet l r) (not (reaches l h || reaches r h)) e in
    (Some (best l r), (best_reaches l r two.0, best_least l r two.0, not-true _ two.1))
some_choice l r h false e = (None, λ k i. not-false _ (rest (meet l r) _ (meet_from l r k i) e))
  where
    rest : (a b : Bool) → a ≡ true → (a && b) ≡ false → b ≡ false
    rest a b p q = grind arith

by_choice : (l r : Tree) (h : ℕ) (c : Option ℕ) → Chooses (reaches l) (reaches r) h c → prescribed (Fork l r) h ≡ lines_by c h (prescribed l) (prescribed r)
by_choice l r h None s = stays l r h (none (meet l r) (reaches l h || reaches r h) (λ m. let k = meet_some l r m in s k.0 k.1))
  where
    none : (a b : Bool) → (a ≡ true → b ≡ true) → (a && not b) ≡ false
    none a b f = grind arith
by_choice l r h (Some k) s = writes_line l r h k (and_from _ _ (meet_from l r k s.0) (not_from_false _ s.2)) s.0 s.1

pub chosen : Chosen
chosen l r h = (some_choice l r h (writes l r h) refl, by_choice l r h)
