-- Edges: what they do to need, and which lines they bring. Assumes nothing.
use Rattle.std.proofs.Common.{◌≡◌, ℕ, zero, suc, ◌+◌, ◌≤◌, Bool, true, false, cond, not, ◌&&◌, ◌||◌, eqb, [], ◌∷◌, ◌++◌, length, sym, refl, ap, ◌∙◌, subst, ap₂, append_assoc, append-nil, suc-add, zero-add, arith}
use Rattle.std.proofs.lemmas.Bool.{or_left, or_right, or_from, or_parts, cond-true, cond-false, cond_both, eq-eqb, eqb-true, and_parts, and_from, and_left, and_right, ne_eqb, not-true, not-false, not_from_true, not_from_false, false≢true}
use Rattle.std.proofs.Math.Bool.{and_comm, or_comm}
use Rattle.prefix.specs.Bits.{Bits, begins}
use Rattle.table.specs.Examples.{line}
use Rattle.table.specs.Tables.{Entries}
use Rattle.fewest.specs.declared.along.Along.{Along}
use Rattle.fewest.specs.declared.along.Along.TheVariants.{Top, Sides}
use Rattle.fewest.specs.Trees.{Tree, Leaf, Fork, Fits, goes, all_to}
use Rattle.fewest.specs.Needs.{need, least, reaches, both, meet}
use Rattle.fewest.specs.Prescribed.{beneath, forked, single, prescribed}
use Rattle.fewest.specs.Edges.{edge, reach_above, aside, along, sides_before, sides_after}
use Rattle.fewest.specs.Laws.{EdgeSends, EdgeKept, between, EdgeLines}
use Rattle.fewest.proofs.Forks.{all_prescribed}
use Rattle.fewest.proofs.Kept.{determined, uniform_kept, meet_from, meet_not, joined, writes, single_none, single_one, stays, writes_line}
use Rattle.fewest.proofs.Halves.{beneath_none, beneath_beneath, beneath_append, beneath_empty, forked_low, forked_high}

-- the other side of a bit
leaf_all : (x : ℕ) → all_to x (Leaf x) ≡ true
unfolding all_to
leaf_all x = eq-eqb x x refl

leaf_least : (x : ℕ) → least (Leaf x) ≡ 0
leaf_least x = (uniform_kept x (Leaf x) (leaf_all x)).0

leaf_reaches : (x k : ℕ) → reaches (Leaf x) k ≡ eqb k x
leaf_reaches x k = (uniform_kept x (Leaf x) (leaf_all x)).1 k

leaf_lines : (x h : ℕ) → prescribed (Leaf x) h ≡ single x h
leaf_lines x h = all_prescribed x (Leaf x) h (leaf_all x)

-- a tree on a side of a fork, with x on the other
abbrev beside : ℕ → Bool → Tree → Tree
beside x false t = Fork t (Leaf x)
beside x true t = Fork (Leaf x) t

edge_none : (x : ℕ) (t : Tree) → edge x [] t ≡ t
unfolding edge
edge_none x t = refl

edge_step : (x : ℕ) (b : Bool) (bs : Bits) (t : Tree) → edge x (b ∷ bs) t ≡ beside x b (edge x bs t)
unfolding edge
edge_step x false bs t = refl
edge_step x true bs t = refl

-- WHERE IT SENDS

edge_inside : (x : ℕ) (bs : Bits) (t : Tree) (a : Bits) → goes (edge x bs t) (bs ++ a) ≡ goes t a
unfolding edge goes
edge_inside x [] t a = refl
edge_inside x (false ∷ bs) t a = edge_inside x bs t a
edge_inside x (true ∷ bs) t a = edge_inside x bs t a

edge_outside : (x : ℕ) (bs : Bits) (t : Tree) (a : Bits) → length bs ≤ length a → begins bs a ≡ false → goes (edge x bs t) a ≡ x
unfolding edge goes begins
edge_outside x [] t a l e = absurd (false≢true (sym e))
edge_outside x (b ∷ bs) t [] l e = absurd (omega arith)
edge_outside x (false ∷ bs) t (false ∷ a) l e = edge_outside x bs t a (omega arith) e
edge_outside x (false ∷ bs) t (true ∷ a) l e = refl
edge_outside x (true ∷ bs) t (false ∷ a) l e = refl
edge_outside x (true ∷ bs) t (true ∷ a) l e = edge_outside x bs t a (omega arith) e

edge_fits : (x : ℕ) (bs : Bits) (t : Tree) (v : ℕ) → Fits v t → Fits (length bs + v) (edge x bs t)
unfolding edge
edge_fits x [] t v f = subst (λ (n : ℕ). Fits n t) (sym (zero-add v)) f
edge_fits x (false ∷ bs) t v f = subst (λ (n : ℕ). Fits n (Fork (edge x bs t) (Leaf x))) (sym (suc-add (length bs) v)) (edge_fits x bs t v f, tt)
edge_fits x (true ∷ bs) t v f = subst (λ (n : ℕ). Fits n (Fork (Leaf x) (edge x bs t))) (sym (suc-add (length bs) v)) (tt, edge_fits x bs t v f)

pub edge_sends : EdgeSends
edge_sends x bs t = (edge_inside x bs t, edge_outside x bs t, edge_fits x bs t)

-- NEED, one bit up

-- what the two halves share is x, if the tree has it
shared_low : (x : ℕ) (t : Tree) (k : ℕ) → both t (Leaf x) k ≡ (reaches t x && eqb k x)
shared_low x t k = ap (λ (b : Bool). reaches t k && b) (leaf_reaches x k) ∙ step (eqb k x) refl
  where
    step : (b : Bool) → eqb k x ≡ b → (reaches t k && b) ≡ (reaches t x && b)
    step true e = ap (λ (j : ℕ). reaches t j && true) (eqb-true k x e)
    step false e = and_comm (reaches t k) false ∙ and_comm false (reaches t x)

shared_high : (x : ℕ) (t : Tree) (k : ℕ) → both (Leaf x) t k ≡ (reaches t x && eqb k x)
shared_high x t k = and_comm (reaches (Leaf x) k) (reaches t k) ∙ shared_low x t k

-- whether they meet
one_meet : (l r : Tree) (x : ℕ) (c : Bool) → ((k : ℕ) → both l r k ≡ (c && eqb k x)) → meet l r ≡ c
one_meet l r x true e = meet_from l r x (e x ∙ eq-eqb x x refl)
one_meet l r x false e = meet_not l r e

-- a fork of a tree and x, whichever stands first
up_fork : (l r t : Tree) (x : ℕ) → ((k : ℕ) → both l r k ≡ (reaches t x && eqb k x)) → ((k : ℕ) → (reaches l k || reaches r k) ≡ (reaches t k || eqb k x)) →
    least l + least r ≡ least t → (least (Fork l r) ≡ need t x) × ((k : ℕ) → reaches (Fork l r) k ≡ reach_above 1 x (reaches t) k)
up_fork l r t x shared either sum = step (reaches t x) refl
  where
    step : (c : Bool) → reaches t x ≡ c → (least (Fork l r) ≡ need t x) × ((k : ℕ) → reaches (Fork l r) k ≡ reach_above 1 x (reaches t) k)
    step true e =
        let j = (joined l r).0 (one_meet l r x true (λ k. shared k ∙ ap (λ (c : Bool). c && eqb k x) e)) in (
          j.0 ∙ sum ∙ sym (determined t x ∙ cond-true _ _ _ e),
          λ k. j.1 k ∙ shared k ∙ ap (λ (c : Bool). c && eqb k x) e ∙ sym (cond-true _ _ _ e),
        )
    step false e =
        let j = (joined l r).1 (one_meet l r x false (λ k. shared k ∙ ap (λ (c : Bool). c && eqb k x) e)) in
        let n : need t x ≡ suc (least t) = determined t x ∙ cond-false _ _ _ e in (
          omega (arith, j.0, sum, n),
          λ k. j.1 k ∙ either k ∙ sym (cond-false _ _ _ e),
        )

up_one : (x : ℕ) (b : Bool) (t : Tree) → (least (beside x b t) ≡ need t x) × ((k : ℕ) → reaches (beside x b t) k ≡ reach_above 1 x (reaches t) k)
up_one x false t = up_fork t (Leaf x) t x (shared_low x t) (λ k. ap (λ (c : Bool). reaches t k || c) (leaf_reaches x k)) (omega (arith, leaf_least x))
up_one x true t =
    up_fork (Leaf x) t t x (shared_high x t)
    (λ k. ap (λ (c : Bool). c || reaches t k) (leaf_reaches x k) ∙ or_comm (eqb k x) (reaches t k))
    (omega (arith, leaf_least x))

-- x reaches the lowest need at the upper end of any edge
above_x : (n x : ℕ) (s : ℕ → Bool) → reach_above (suc n) x s x ≡ true
above_x zero x s =
    cond_both (s x) (eqb x x) (s x || eqb x x) (λ (b : Bool). b ≡ true) (λ _. eq-eqb x x refl) (λ _. or_right (s x) (eqb x x) (eq-eqb x x refl))
above_x (suc n) x s = eq-eqb x x refl

pub edge_kept : EdgeKept
edge_kept x [] t = unfold edge in (refl, λ k. refl)
edge_kept x (b ∷ []) t = rw (edge_step x b [] t) (unfold edge in up_one x b t)
edge_kept x (b ∷ c ∷ bs) t =
    let rest = edge_kept x (c ∷ bs) t in
    let inner : reaches (edge x (c ∷ bs) t) x ≡ true = rest.1 x ∙ above_x (length bs) x (reaches t) in
    let u = up_one x b (edge x (c ∷ bs) t) in
    rw (edge_step x b (c ∷ bs) t) (
      u.0 ∙ determined (edge x (c ∷ bs) t) x ∙ cond-true _ _ _ inner ∙ rest.0,
      λ k. u.1 k ∙ cond-true _ _ _ inner,
    )

-- LINES

-- whether a line is written at the fork
abbrev writes_at : ℕ → Bool → Tree → ℕ → Bool
writes_at x false t h = writes t (Leaf x) h
writes_at x true t h = writes (Leaf x) t h

writes_beside : (x : ℕ) (b : Bool) (t : Tree) (h : ℕ) → writes_at x b t h ≡ (reaches t x && not (reaches t h || eqb h x))
writes_beside x false t h =
    ap₂ (λ (a c : Bool). a && not c) (one_meet t (Leaf x) x (reaches t x) (shared_low x t)) (ap (λ (c : Bool). reaches t h || c) (leaf_reaches x h))
writes_beside x true t h =
    ap₂ (λ (a c : Bool). a && not c) (one_meet (Leaf x) t x (reaches t x) (shared_high x t))
    (ap (λ (c : Bool). c || reaches t h) (leaf_reaches x h) ∙ or_comm (eqb h x) (reaches t h))

-- with x: nothing is written
stay_with : (x : ℕ) (b : Bool) (t : Tree) → prescribed (beside x b t) x ≡ beneath (b ∷ []) (prescribed t x)
stay_with x b t = out b (writes_beside x b t x ∙ and_right (reaches t x) _ (not_from_true _ (or_right (reaches t x) (eqb x x) (eq-eqb x x refl))))
  where
    out : (b : Bool) → writes_at x b t x ≡ false → prescribed (beside x b t) x ≡ beneath (b ∷ []) (prescribed t x)
    out false e = stays t (Leaf x) x e ∙ ap (forked (prescribed t x)) (leaf_lines x x ∙ single_none x x (eq-eqb x x refl)) ∙ forked_low (prescribed t x)
    out true e = stays (Leaf x) t x e ∙ ap (λ (u : Entries). forked u (prescribed t x)) (leaf_lines x x ∙ single_none x x (eq-eqb x x refl)) ∙ forked_high (prescribed t x)

-- with another next hop, and none written at the fork: x has its line on the other side
stay_without : (x : ℕ) (b : Bool) (t : Tree) (h : ℕ) → eqb h x ≡ false → writes_at x b t h ≡ false →
    prescribed (beside x b t) h ≡ sides_before x (b ∷ []) ++ (beneath (b ∷ []) (prescribed t h) ++ sides_after x (b ∷ []))
unfolding sides_before sides_after beneath
stay_without x false t h n e = stays t (Leaf x) h e ∙ ap (forked (prescribed t h)) (leaf_lines x h ∙ single_one x h n)
stay_without x true t h n e =
    stays (Leaf x) t h e ∙ ap (λ (u : Entries). forked u (prescribed t h)) (leaf_lines x h ∙ single_one x h n) ∙
    ap (λ (u : Entries). line (false ∷ []) x ∷ u) (sym (append-nil (beneath (true ∷ []) (prescribed t h))))

-- a line written at the fork has x
write_x : (x : ℕ) (b : Bool) (t : Tree) (h : ℕ) → writes_at x b t h ≡ true → prescribed (beside x b t) h ≡ line [] x ∷ beneath (b ∷ []) (prescribed t x)
write_x x b t h e = out b e (and_parts (reaches t x) _ (sym (writes_beside x b t h) ∙ e)).0
  where
    own : (c : Bool) (k : ℕ) → (c && eqb k x) ≡ true → x ≤ k
    own c k i = omega (arith, eqb-true k x (and_parts c (eqb k x) i).1)

    out : (b : Bool) → writes_at x b t h ≡ true → reaches t x ≡ true → prescribed (beside x b t) h ≡ line [] x ∷ beneath (b ∷ []) (prescribed t x)
    out false e r =
        writes_line t (Leaf x) h x e (shared_low x t x ∙ and_from _ _ r (eq-eqb x x refl)) (λ j i. own (reaches t x) j (sym (shared_low x t j) ∙ i)) ∙
        ap (λ (u : Entries). line [] x ∷ u) (ap (forked (prescribed t x)) (leaf_lines x x ∙ single_none x x (eq-eqb x x refl)) ∙ forked_low (prescribed t x))
    out true e r =
        writes_line (Leaf x) t h x e (shared_high x t x ∙ and_from _ _ r (eq-eqb x x refl)) (λ j i. own (reaches t x) j (sym (shared_high x t j) ∙ i)) ∙
        ap (λ (u : Entries). line [] x ∷ u) (ap (λ (u : Entries). forked u (prescribed t x)) (leaf_lines x x ∙ single_none x x (eq-eqb x x refl)) ∙ forked_high (prescribed t x))

-- a whole edge, for one who comes with x
edge_with : (x : ℕ) (bs : Bits) (t : Tree) → prescribed (edge x bs t) x ≡ beneath bs (prescribed t x)
edge_with x [] t = unfold edge in sym (beneath_none (prescribed t x))
edge_with x (b ∷ bs) t =
    let rest : prescribed (edge x bs t) x ≡ beneath bs (prescribed t x) = edge_with x bs t in
    ap (λ (u : Tree). prescribed u x) (edge_step x b bs t) ∙ stay_with x b (edge x bs t) ∙ ap (beneath (b ∷ [])) rest ∙ beneath_beneath (b ∷ []) bs (prescribed t x)

-- and for one who gets a line at its upper end
edge_top : (x : ℕ) (b : Bool) (bs : Bits) (t : Tree) (h : ℕ) → reaches (edge x bs t) x ≡ true → reaches (edge x bs t) h ≡ false → eqb h x ≡ false →
    prescribed (edge x (b ∷ bs) t) h ≡ between Top x h (b ∷ bs) (prescribed t)
edge_top x b bs t h i o n =
    ap (λ (u : Tree). prescribed u h) (edge_step x b bs t) ∙
    write_x x b (edge x bs t) h (writes_beside x b (edge x bs t) h ∙ and_from _ _ i (not_from_false _ (or_from _ _ o n))) ∙
    ap (λ (u : Entries). line [] x ∷ u)
    (ap (beneath (b ∷ [])) (edge_with x bs t) ∙ beneath_beneath (b ∷ []) bs (prescribed t x) ∙ sym (append-nil (beneath (b ∷ bs) (prescribed t x))))

-- one bit, with lines aside
edge_aside : (x : ℕ) (b : Bool) (t : Tree) (h : ℕ) → (reaches t x && not (reaches t h)) ≡ false → eqb h x ≡ false →
    prescribed (edge x (b ∷ []) t) h ≡ between Sides x h (b ∷ []) (prescribed t)
edge_aside x b t h e n =
    ap (λ (u : Tree). prescribed u h) (edge_step x b [] t ∙ ap (beside x b) (edge_none x t)) ∙
    stay_without x b t h n (writes_beside x b t h ∙ ap (λ (c : Bool). reaches t x && not (reaches t h || c)) n ∙ out (reaches t x) (reaches t h) e)
  where
    out : (a c : Bool) → (a && not c) ≡ false → (a && not (c || false)) ≡ false
    out a c i = grind arith

-- under a bit, each part by itself
spread : (x : ℕ) (b : Bool) (bs : Bits) (u : Entries) → beneath (b ∷ []) (sides_before x bs ++ (beneath bs u ++ sides_after x bs)) ≡
    beneath (b ∷ []) (sides_before x bs) ++ (beneath (b ∷ bs) u ++ beneath (b ∷ []) (sides_after x bs))
spread x b bs u =
    beneath_append (b ∷ []) (sides_before x bs) (beneath bs u ++ sides_after x bs) ∙
    ap (λ (r : Entries). beneath (b ∷ []) (sides_before x bs) ++ r)
    (beneath_append (b ∷ []) (beneath bs u) (sides_after x bs) ∙ ap (λ (r : Entries). r ++ beneath (b ∷ []) (sides_after x bs)) (beneath_beneath (b ∷ []) bs u))

-- lines aside of one bit more
sides_more : (x : ℕ) (b : Bool) (bs : Bits) (u : Entries) →
    sides_before x (b ∷ []) ++ (beneath (b ∷ []) (sides_before x bs ++ (beneath bs u ++ sides_after x bs)) ++ sides_after x (b ∷ [])) ≡
    sides_before x (b ∷ bs) ++ (beneath (b ∷ bs) u ++ sides_after x (b ∷ bs))
unfolding sides_before sides_after
sides_more x false bs u =
    ap₂ (λ (n r : Entries). n ++ (r ++ (n ++ (line (true ∷ []) x ∷ [])))) (beneath_empty (false ∷ [])) (spread x false bs u) ∙
    append_assoc (beneath (false ∷ []) (sides_before x bs)) (beneath (false ∷ bs) u ++ beneath (false ∷ []) (sides_after x bs)) (line (true ∷ []) x ∷ []) ∙
    ap (λ (r : Entries). beneath (false ∷ []) (sides_before x bs) ++ r)
    (append_assoc (beneath (false ∷ bs) u) (beneath (false ∷ []) (sides_after x bs)) (line (true ∷ []) x ∷ []))
sides_more x true bs u =
    ap₂ (λ (n r : Entries). line (false ∷ []) x ∷ (n ++ (r ++ n))) (beneath_empty (true ∷ [])) (spread x true bs u) ∙
    ap (λ (r : Entries). line (false ∷ []) x ∷ r) (append-nil (beneath (true ∷ []) (sides_before x bs) ++ (beneath (true ∷ bs) u ++ beneath (true ∷ []) (sides_after x bs))))

-- the choice along one bit or more, for one who does not come with x
by_aside : (n x : ℕ) (s : ℕ → Bool) (h : ℕ) → eqb h x ≡ false → along (suc n) x s h ≡ cond (aside (suc n) (s x) (s h)) Sides Top
by_aside n x s h e = cond-false _ _ _ (or_from (eqb (suc n) 0) (eqb h x) (ne_eqb (suc n) 0 (λ i. omega arith)) e)

-- two bits, with lines aside
edge_aside_two : (x : ℕ) (b c : Bool) (t : Tree) (h : ℕ) → reaches t x ≡ false → reaches t h ≡ true → eqb h x ≡ false →
    prescribed (edge x (b ∷ c ∷ []) t) h ≡ between Sides x h (b ∷ c ∷ []) (prescribed t)
edge_aside_two x b c t h i o n =
    let inner : Tree = edge x (c ∷ []) t in
    let up : reaches (edge x (c ∷ []) t) h ≡ true = (edge_kept x (c ∷ []) t).1 h ∙ cond-false _ _ _ i ∙ or_left (reaches t h) (eqb h x) o in
    ap (λ (u : Tree). prescribed u h) (edge_step x b (c ∷ []) t) ∙
    stay_without x b (edge x (c ∷ []) t) h n
    (writes_beside x b (edge x (c ∷ []) t) h ∙ and_right _ _ (not_from_true _ (or_left (reaches (edge x (c ∷ []) t) h) (eqb h x) up))) ∙
    ap (λ (u : Entries). sides_before x (b ∷ []) ++ (beneath (b ∷ []) u ++ sides_after x (b ∷ []))) (edge_aside x c t h (and_left (reaches t x) _ i) n) ∙
    sides_more x b (c ∷ []) (prescribed t h)

edge_apart : (x : ℕ) (b : Bool) (bs : Bits) (t : Tree) (h : ℕ) → eqb h x ≡ false →
    (q : Bool) → aside (suc (length bs)) (reaches t x) (reaches t h) ≡ q → prescribed (edge x (b ∷ bs) t) h ≡ between (cond q Sides Top) x h (b ∷ bs) (prescribed t)
edge_apart x b [] t h n true e = edge_aside x b t h (turned (reaches t x) (reaches t h) e) n
  where
    turned : (a c : Bool) → (not a || c) ≡ true → (a && not c) ≡ false
    turned a c i = grind arith
edge_apart x b [] t h n false e =
    let two = or_parts (not (reaches t x)) (reaches t h) e in
    edge_top x b [] t h (rw (edge_none x t) (not-false _ two.0)) (rw (edge_none x t) two.1) n
edge_apart x b (c ∷ []) t h n true e =
    let two = and_parts (not (reaches t x)) (reaches t h) e in
    edge_aside_two x b c t h (not-true _ two.0) two.1 n
edge_apart x b (c ∷ []) t h n false e =
    edge_top x b (c ∷ []) t h ((edge_kept x (c ∷ []) t).1 x ∙ above_x 0 x (reaches t)) ((edge_kept x (c ∷ []) t).1 h ∙ none (reaches t x) (reaches t h) (eqb h x) e n) n
  where
    none : (a c d : Bool) → (not a && c) ≡ false → d ≡ false → cond a d (c || d) ≡ false
    none a c d i j = grind arith
edge_apart x b (c ∷ d ∷ bs) t h n true e = absurd (false≢true e)
edge_apart x b (c ∷ d ∷ bs) t h n false e =
    edge_top x b (c ∷ d ∷ bs) t h ((edge_kept x (c ∷ d ∷ bs) t).1 x ∙ eq-eqb x x refl) ((edge_kept x (c ∷ d ∷ bs) t).1 h ∙ n) n

pub edge_lines : EdgeLines
edge_lines x [] t h = ap (λ (u : Tree). prescribed u h) (edge_none x t) ∙ sym (append-nil (beneath [] (prescribed t h)) ∙ beneath_none (prescribed t h))
edge_lines x (b ∷ bs) t h = step (eqb h x) refl
  where
    step : (q : Bool) → eqb h x ≡ q → prescribed (edge x (b ∷ bs) t) h ≡ between (along (suc (length bs)) x (reaches t) h) x h (b ∷ bs) (prescribed t)
    step true e =
        ap (prescribed (edge x (b ∷ bs) t)) (eqb-true h x e) ∙ edge_with x (b ∷ bs) t ∙ ap (λ (k : ℕ). beneath (b ∷ bs) (prescribed t k)) (sym (eqb-true h x e)) ∙
        sym (append-nil (beneath (b ∷ bs) (prescribed t h))) ∙
        ap (λ (c : Along). between c x h (b ∷ bs) (prescribed t)) (sym (cond-true _ _ _ (or_right (eqb (suc (length bs)) 0) (eqb h x) e)))
    step false e =
        edge_apart x b bs t h e (aside (suc (length bs)) (reaches t x) (reaches t h)) refl ∙
        ap (λ (c : Along). between c x h (b ∷ bs) (prescribed t)) (sym (by_aside (length bs) x (reaches t) h e))
