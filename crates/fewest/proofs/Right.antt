-- The prescribed table: where it sends, how many lines it has, that it is sound and in order, and its next hops. Assumes nothing.
use Rattle.std.proofs.Common.{◌≡◌, ℕ, zero, suc, ◌+◌, Bool, true, false, ◌||◌, eqb, leb, [], ◌∷◌, length, Some, None, Option, sym, refl, ap, ◌∙◌, ap₂, arith}
use Rattle.std.proofs.lemmas.Bool.{and_parts, and_from, or_left, or_right, cond_both, eq-eqb}
use Rattle.prefix.specs.Bits.{Bits, Address, begins}
use Rattle.table.specs.declared.lookups.Match.{Match}
use Rattle.table.specs.Tables.{Entries, longer, find, hop_of, sends, distinct, every, fits, rising}
use Rattle.table.proofs.Rising.{rising_distinct}
use Rattle.fewest.specs.Trees.{Tree, Leaf, Fork, Fits, tree_of, first, goes, hops, elem, uniform}
use Rattle.fewest.specs.Needs.{need}
use Rattle.fewest.specs.Prescribed.{forked, below, best, prescribed, short}
use Rattle.fewest.specs.Laws.{SendsAs, KeepsSound, InOrder, has_hop, HopsAmong, CountIs, ShortIsShortest}
use Rattle.fewest.proofs.Lowest.{elem_one}
use Rattle.fewest.proofs.Forks.{fork_low, fork_high, first_in, all_goes, all_need, best_in_hops, best_lowest, need_fork, need_leaf, prescribed_by}
use Rattle.fewest.proofs.Split.{hop_or, sends_or}
use Rattle.fewest.proofs.Rivals.{build, build_fits, build_goes, build_hop, tree_build, none_fewer}
use Rattle.fewest.proofs.Halves.{half, length_forked, length_single, forked_sends, line_sends, single_sends, line_fits, fits_forked, fits_line, fits_single, every_weaker, rising_forked, rising_line, rising_single}

-- WHERE IT SENDS

fork_sends : (l r : Tree) (h : ℕ) (b : Bool) (a : Bits) (v : ℕ) →
    ((k : ℕ) → hop_or k (find (half (prescribed l k) (prescribed r k) b) a) ≡ v) → (uniform (Fork l r) ≡ true → v ≡ first (Fork l r)) →
    hop_or h (find (prescribed (Fork l r) h) (b ∷ a)) ≡ v
fork_sends l r h b a v deep one =
    prescribed_by l r h (λ (u : Entries). hop_or h (find u (b ∷ a)) ≡ v)
    (λ e. single_sends (first (Fork l r)) h (b ∷ a) ∙ sym (one e))
    (λ _. forked_sends h (prescribed l h) (prescribed r h) b a ∙ deep h)
    (λ _. line_sends h (best l r) (prescribed l (best l r)) (prescribed r (best l r)) b a ∙ deep (best l r))

pub prescribed_sends : (w : ℕ) (t : Tree) (h : ℕ) (a : Bits) → Fits w t → Address w a → hop_or h (find (prescribed t h) a) ≡ goes t a
unfolding goes
prescribed_sends w (Leaf x) h a f n = unfold prescribed in single_sends x h a
prescribed_sends zero (Fork l r) h a f n = absurd f
prescribed_sends (suc w) (Fork l r) h [] f n = absurd (omega arith)
prescribed_sends (suc w) (Fork l r) h (false ∷ a) f n =
    fork_sends l r h false a (goes l a) (λ k. prescribed_sends w l k a f.0 (omega arith)) (λ e. all_goes (first (Fork l r)) (Fork l r) (false ∷ a) e)
prescribed_sends (suc w) (Fork l r) h (true ∷ a) f n =
    fork_sends l r h true a (goes r a) (λ k. prescribed_sends w r k a f.1 (omega arith)) (λ e. all_goes (first (Fork l r)) (Fork l r) (true ∷ a) e)

pub sends_as : SendsAs
sends_as w t a n =
    let f = build_fits w (sends t) in
    sym (build_goes w (sends t) a n) ∙ sym (prescribed_sends w (build w (sends t)) 0 a f n) ∙ sym (sends_or (prescribed (build w (sends t)) 0) a) ∙
    ap (λ (v : Tree). sends (prescribed v 0) a) (sym (tree_build w (sends t) []))

-- HOW MANY LINES IT HAS

pub prescribed_length : (t : Tree) (h : ℕ) → length (prescribed t h) ≡ need t h
prescribed_length (Leaf x) h = unfold prescribed in length_single x h ∙ sym (need_leaf x h)
prescribed_length (Fork l r) h =
    let halves : (k : ℕ) → length (forked (prescribed l k) (prescribed r k)) ≡ below l r k =
    λ k. length_forked (prescribed l k) (prescribed r k) ∙ ap₂ ◌+◌ (prescribed_length l k) (prescribed_length r k) in
    prescribed_by l r h (λ (u : Entries). length u ≡ need (Fork l r) h)
    (λ e. length_single (first (Fork l r)) h ∙ sym (all_need (first (Fork l r)) (Fork l r) h e))
    (λ p. omega (arith, halves h, need_fork l r h))
    (λ p. omega (arith, halves (best l r), best_lowest l r, need_fork l r h))

pub count_is : CountIs
count_is w t = prescribed_length (tree_of w t) 0

pub short_is_shortest : ShortIsShortest
short_is_shortest w t = record { same = sends_as w t; fewest_lines = λ u e. rw (count_is w t) (none_fewer w t u e) }

-- ITS ORDER

pub prescribed_rising : (t : Tree) (h : ℕ) → rising (prescribed t h) ≡ true
prescribed_rising (Leaf x) h = unfold prescribed in rising_single x h
prescribed_rising (Fork l r) h =
    let halves : (k : ℕ) → rising (forked (prescribed l k) (prescribed r k)) ≡ true =
    λ k. rising_forked (prescribed l k) (prescribed r k) (prescribed_rising l k) (prescribed_rising r k) in
    prescribed_by l r h (λ (u : Entries). rising u ≡ true)
    (λ _. rising_single (first (Fork l r)) h)
    (λ _. halves h)
    (λ _. rising_line (best l r) (prescribed l (best l r)) (prescribed r (best l r)) (halves (best l r)))

pub in_order : InOrder
in_order w t = prescribed_rising (tree_of w t) 0

-- ITS LENGTHS AND NEXT HOPS

pub prescribed_fits : (w : ℕ) (f : ℕ → Bool) (t : Tree) (h : ℕ) → Fits w t → ((k : ℕ) → elem k (hops t) ≡ true → f k ≡ true) → every (line_fits w f) (prescribed t h) ≡ true
prescribed_fits w f (Leaf x) h s g = unfold prescribed in fits_single w f x h (g x (unfold hops in elem_one x x ∙ eq-eqb x x refl))
prescribed_fits zero f (Fork l r) h s g = absurd s
prescribed_fits (suc w) f (Fork l r) h s g =
    let halves : (k : ℕ) → every (line_fits (suc w) f) (forked (prescribed l k) (prescribed r k)) ≡ true =
    λ k. fits_forked w f (prescribed l k) (prescribed r k)
    (prescribed_fits w f l k s.0 (λ j e. g j (fork_low l r j e))) (prescribed_fits w f r k s.1 (λ j e. g j (fork_high l r j e))) in
    prescribed_by l r h (λ (u : Entries). every (line_fits (suc w) f) u ≡ true)
    (λ _. fits_single (suc w) f (first (Fork l r)) h (g (first (Fork l r)) (first_in (Fork l r))))
    (λ _. halves h)
    (λ _. fits_line (suc w) f (best l r) _ (g (best l r) (best_in_hops l r)) (halves (best l r)))

-- what holds of 0 and of the next hops of a table holds of where it sends
sends_test : (f : ℕ → Bool) (t : Entries) (a : Bits) → f 0 ≡ true → every (λ e. f e.hop) t ≡ true → f (sends t a) ≡ true
unfolding every find
sends_test f [] a z g = z
sends_test f (e ∷ es) a z g =
    let two = and_parts (f e.hop) (every (λ d. f d.hop) es) g in
    let later : f (sends es a) ≡ true = sends_test f es a z two.1 in
    cond_both (begins e.prefix a) _ _ (λ (m : Option Match). f (hop_of m) ≡ true) (λ _. new (find es a) two.0 later) (λ _. later)
  where
    new : (m : Option Match) → f e.hop ≡ true → f (hop_of m) ≡ true → f (hop_of (longer e m)) ≡ true
    new None p q = p
    new (Some m) p q = cond_both (leb m.len (length e.prefix)) _ _ (λ (o : Option Match). f (hop_of o) ≡ true) (λ _. p) (λ _. q)

short_fits : (f : ℕ → Bool) (w : ℕ) (t : Entries) → f 0 ≡ true → every (λ e. f e.hop) t ≡ true → every (line_fits w f) (short w t) ≡ true
short_fits f w t z g =
    rw (tree_build w (sends t) [])
    (prescribed_fits w f (build w (sends t)) 0 (build_fits w (sends t))
    (λ k e. let a = build_hop w (sends t) k e in ap f (sym a.2) ∙ sends_test f t a.0 z g))

pub keeps_sound : KeepsSound
keeps_sound w t s =
    let low : ℕ → Bool = λ k. leb k 255 in
    let own : every (λ e. low e.hop) t ≡ true =
    every_weaker (line_fits w low) (λ e. low e.hop) (λ e a. (and_parts (leb (length e.prefix) w) (low e.hop) a).1) t (and_parts (distinct t) (fits w t) s).1 in
    and_from (distinct (short w t)) (fits w (short w t)) (rising_distinct (short w t) (in_order w t)) (short_fits low w t refl own)

-- each line has its own next hop
own_hops : (f : ℕ → Bool) (t : Entries) → ((k : ℕ) → has_hop k t ≡ true → f k ≡ true) → every (λ e. f e.hop) t ≡ true
unfolding every
own_hops f [] g = refl
own_hops f (e ∷ es) g =
    and_from _ _ (g e.hop (or_left (eqb e.hop e.hop) (has_hop e.hop es) (eq-eqb e.hop e.hop refl)))
    (own_hops f es (λ k i. g k (or_right (eqb k e.hop) (has_hop k es) i)))

pub hops_among : HopsAmong
hops_among w t =
    let f : ℕ → Bool = λ k. eqb k 0 || has_hop k t in
    every_weaker (line_fits w f) (λ e. f e.hop) (λ e a. (and_parts (leb (length e.prefix) w) (f e.hop) a).1) (short w t)
    (short_fits f w t (or_left (eqb 0 0) (has_hop 0 t) refl) (own_hops f t (λ k i. or_right (eqb k 0) (has_hop k t) i)))
