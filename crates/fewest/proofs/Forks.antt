-- Need at a fork, by one law for all forks; trees of one next hop; the best next hop. Assumes nothing.
use Rattle.std.proofs.Common.{◌≡◌, ℕ, ◌+◌, ◌<◌, ◌≤◌, min, true, false, eqb, leb, [], ◌∷◌, sym, refl, ap, ◌∙◌, ⊎_elim, arith}
use Rattle.std.proofs.lemmas.Bool.{or_parts, or_left, or_right, cases_Bool, cond-true, cond-false, cond_both, eqb-true, and_parts, leb-true, leb-false}
use Rattle.std.proofs.lemmas.Bool.Decides.{nat_tests}
use Rattle.std.proofs.lemmas.List.Folds.{list_any-append}
use Rattle.prefix.specs.Bits.{Bits}
use Rattle.table.specs.Examples.{line}
use Rattle.table.specs.Tables.{Entries}
use Rattle.fewest.specs.Trees.{Tree, Leaf, Fork, first, goes, hops, elem, all_to, uniform}
use Rattle.fewest.specs.Needs.{unlike, need}
use Rattle.fewest.specs.Prescribed.{forked, single, below, lowest_below, best, prescribed}
use Rattle.fewest.specs.Laws.{BestIs}
use Rattle.fewest.proofs.Lowest.{elem_here, elem_one, lowest_elem, lowest_from, Wins, best_wins, best_in}

-- the next hops of a fork
pub fork_low : (l r : Tree) (k : ℕ) → elem k (hops l) ≡ true → elem k (hops (Fork l r)) ≡ true
unfolding hops
fork_low l r k e = list_any-append _ (hops l) (hops r) ∙ or_left (elem k (hops l)) (elem k (hops r)) e

pub fork_high : (l r : Tree) (k : ℕ) → elem k (hops r) ≡ true → elem k (hops (Fork l r)) ≡ true
unfolding hops
fork_high l r k e = list_any-append _ (hops l) (hops r) ∙ or_right (elem k (hops l)) (elem k (hops r)) e

pub fork_out : (l r : Tree) (k : ℕ) → elem k (hops (Fork l r)) ≡ false → (elem k (hops l) ≡ false) × (elem k (hops r) ≡ false)
unfolding hops
fork_out l r k e = or_parts (elem k (hops l)) (elem k (hops r)) (sym (list_any-append _ (hops l) (hops r)) ∙ e)

pub first_in : (t : Tree) → elem (first t) (hops t) ≡ true
unfolding first hops
first_in (Leaf x) = elem_here x []
first_in (Fork l r) = fork_low l r (first l) (first_in l)

-- trees all of whose addresses go to x
pub all_first : (x : ℕ) (t : Tree) → all_to x t ≡ true → first t ≡ x
unfolding all_to first
all_first x (Leaf y) e = eqb-true y x e
all_first x (Fork l r) e = all_first x l (and_parts (all_to x l) (all_to x r) e).0

pub all_uniform : (x : ℕ) (t : Tree) → all_to x t ≡ true → uniform t ≡ true
all_uniform x t e = rw (all_first x t e) e

pub all_goes : (x : ℕ) (t : Tree) (a : Bits) → all_to x t ≡ true → goes t a ≡ x
unfolding all_to goes
all_goes x (Leaf y) a e = eqb-true y x e
all_goes x (Fork l r) [] e = all_first x l (and_parts (all_to x l) (all_to x r) e).0
all_goes x (Fork l r) (false ∷ a) e = all_goes x l a (and_parts (all_to x l) (all_to x r) e).0
all_goes x (Fork l r) (true ∷ a) e = all_goes x r a (and_parts (all_to x l) (all_to x r) e).1

pub all_need : (x : ℕ) (t : Tree) (h : ℕ) → all_to x t ≡ true → need t h ≡ unlike x h
all_need x (Leaf y) h e = unfold need all_to in ap (λ (z : ℕ). unlike z h) (eqb-true y x (unfold all_to in e))
all_need x (Fork l r) h e = unfold need in cond-true _ _ _ (all_uniform x (Fork l r) e) ∙ ap (λ (z : ℕ). unlike z h) (all_first x (Fork l r) e)

-- no number is lower than the lowest, and the best next hop has it
pub best_in_hops : (l r : Tree) → elem (best l r) (hops (Fork l r)) ≡ true
best_in_hops l r = ⊎_elim
    (λ (e : best l r ≡ first l). rw e (fork_low l r (first l) (first_in l)))
    (λ e. e)
    (best_in (below l r) (first l) (hops (Fork l r)))

pub best_wins_at : (l r : Tree) (k : ℕ) → elem k (hops (Fork l r)) ≡ true → Wins (below l r) (best l r) k
best_wins_at l r k e = best_wins (below l r) (first l) (hops (Fork l r)) k e

pub lowest_at : (l r : Tree) (k : ℕ) → elem k (hops (Fork l r)) ≡ true → lowest_below l r ≤ below l r k
lowest_at l r k e = lowest_elem (below l r) (below l r (first l)) (hops (Fork l r)) k e

pub lowest_over_lem : (l r : Tree) (c : ℕ) → ((k : ℕ) → elem k (hops (Fork l r)) ≡ true → c ≤ below l r k) → c ≤ lowest_below l r
lowest_over_lem l r c g = lowest_from (below l r) (below l r (first l)) (hops (Fork l r)) c (g (first l) (fork_low l r (first l) (first_in l))) g

pub best_lowest : (l r : Tree) → below l r (best l r) ≡ lowest_below l r
best_lowest l r =
    let a : lowest_below l r ≤ below l r (best l r) = lowest_at l r (best l r) (best_in_hops l r) in
    let b : below l r (best l r) ≤ lowest_below l r = lowest_over_lem l r (below l r (best l r)) (λ k e. (best_wins_at l r k e).0) in
    omega arith

pub best_is : BestIs
best_is l r = (
  best_in_hops l r,
  best_lowest l r,
  lowest_at l r,
  λ k e i. (best_wins_at l r k e).1 (best_lowest l r ∙ sym i),
)

-- there is one best next hop
pub best_one : (l r : Tree) (k : ℕ) → elem k (hops (Fork l r)) ≡ true → ((j : ℕ) → elem j (hops (Fork l r)) ≡ true → Wins (below l r) k j) → best l r ≡ k
best_one l r k i w =
    let a = best_wins_at l r k i in
    let b = w (best l r) (best_in_hops l r) in
    omega (arith, a, b)

-- THE LAW OF FORKS: that all go to one next hop is no case of its own
uniform_core : (n x h a b : ℕ) → a ≡ unlike x h → b ≡ unlike x h → n ≤ unlike x x + unlike x x → unlike x h ≡ min (a + b) (1 + n)
uniform_core n x h a b p q e = grind (arith, nat_tests)

pub need_fork : (l r : Tree) (h : ℕ) → need (Fork l r) h ≡ min (below l r h) (1 + lowest_below l r)
need_fork l r h = ⊎_elim
    (λ (e : uniform (Fork l r) ≡ true).
    let x : ℕ = first (Fork l r) in
    let two : (all_to x l ≡ true) × (all_to x r ≡ true) = and_parts (all_to x l) (all_to x r) (unfold all_to in e) in
    let low : lowest_below l r ≤ unlike x x + unlike x x =
    rw (all_need x l x two.0, all_need x r x two.1) at (lowest_at l r x (first_in (Fork l r))) in
    all_need x (Fork l r) h e ∙ uniform_core (lowest_below l r) x h (need l h) (need r h) (all_need x l h two.0) (all_need x r h two.1) low)
    (λ (e : uniform (Fork l r) ≡ false). unfold need in cond-false _ _ _ e)
    (cases_Bool (uniform (Fork l r)))

pub need_stay : (l r : Tree) (h : ℕ) → need (Fork l r) h ≤ below l r h
need_stay l r h = omega (arith, need_fork l r h)

pub need_line : (l r : Tree) (h k : ℕ) → elem k (hops (Fork l r)) ≡ true → need (Fork l r) h ≤ 1 + below l r k
need_line l r h k e = omega (arith, need_fork l r h, lowest_at l r k e)

pub need_leaf : (x h : ℕ) → need (Leaf x) h ≡ unlike x h
unfolding need
need_leaf x h = refl

-- a next hop that no address takes is the worst to come with
pub need_outside : (t : Tree) (k h : ℕ) → elem k (hops t) ≡ false → need t h ≤ need t k
need_outside (Leaf x) k h e =
    let ne : eqb k x ≡ false = sym (elem_one k x) ∙ (unfold hops in e) in
    let a = need_leaf x h in
    let b = need_leaf x k in
    grind (arith, nat_tests)
need_outside (Fork l r) k h e =
    let out = fork_out l r k e in
    let a : need l h ≤ need l k = need_outside l k h out.0 in
    let b : need r h ≤ need r k = need_outside r k h out.1 in
    omega (arith, need_fork l r h, need_fork l r k)

-- the prescribed lines of a tree of one next hop
pub all_prescribed : (x : ℕ) (t : Tree) (h : ℕ) → all_to x t ≡ true → prescribed t h ≡ single x h
all_prescribed x (Leaf y) h e = unfold prescribed in ap (λ (z : ℕ). single z h) (eqb-true y x (unfold all_to in e))
all_prescribed x (Fork l r) h e = unfold prescribed in cond-true _ _ _ (all_uniform x (Fork l r) e) ∙ ap (λ (z : ℕ). single z h) (all_first x (Fork l r) e)

-- the three ways at a fork
pub prescribed_by : (l r : Tree) (h : ℕ) (P : Entries → Type 0) →
    (uniform (Fork l r) ≡ true → P (single (first (Fork l r)) h)) →
    (below l r h ≤ 1 + lowest_below l r → P (forked (prescribed l h) (prescribed r h))) →
    (1 + lowest_below l r < below l r h → P (line [] (best l r) ∷ forked (prescribed l (best l r)) (prescribed r (best l r)))) →
    P (prescribed (Fork l r) h)
unfolding prescribed
prescribed_by l r h P one none more =
    cond_both (uniform (Fork l r)) _ _ P one
    (λ _. cond_both (leb (below l r h) (1 + lowest_below l r)) _ _ P (λ e. none (leb-true _ _ e)) (λ e. more (leb-false _ _ e)))
