-- Needs of the code that are kept for trees: joined, lifted along an edge, and what is chosen by them. Assumes nothing.
use Rattle.std.proofs.Common.{◌≡◌, ℕ, zero, suc, ◌+◌, Bool, true, false, cond, ◌&&◌, ◌||◌, length, Some, None, Option, sym, refl, ap, ◌∙◌, subst, ap₂, arith}
use mathlib.Core.Path.{fun_ext}
use Rattle.std.proofs.lemmas.Bool.{both_ways}
use Rattle.prefix.specs.Bits.{Bits}
use Rattle.fewest.specs.declared.along.Along.{Along}
use Rattle.fewest.specs.Trees.{Tree, Fork, all_to}
use Rattle.fewest.specs.Needs.{need, least, reaches, both, meet}
use Rattle.fewest.specs.Prescribed.{prescribed}
use Rattle.fewest.specs.Edges.{edge, least_above, reach_above, along}
use Rattle.fewest.specs.Laws.{Chooses, lines_by, between}
use Rattle.fewest.proofs.Kept.{uniform_kept, determined, meet_is, joined, chosen}
use Rattle.fewest.proofs.Edges.{edge_kept, edge_lines}
use Rattle.aggregate.specs.declared.need.Need.{Need}
use Rattle.aggregate.specs.declared.hops.HopSet.{HopSet}
use Rattle.aggregate.specs.Sets.{has, Lowest, Empty}
use Rattle.aggregate.specs.Model.{capped, among, Keeps, need_with, UniformTo, JoinedTo, count_above, LiftedTo}

-- the set of a kept need, as a whole
pub same_set : (n : Need) (t : Tree) → Keeps n t → among n ≡ reaches t
same_set n t k = fun_ext k.members

pub uniform_keeps : (x : ℕ) (n : Need) → UniformTo x n → (t : Tree) → all_to x t ≡ true → Keeps n t
uniform_keeps x n u t e =
    let k = uniform_kept x t e in
    record { number = omega (arith, u.number, k.0); members = λ j. u.members j ∙ sym (k.1 j) }

-- what it says for one next hop
with_core : (b : Bool) (n l m : ℕ) → n ≡ capped l → m ≡ cond b l (suc l) → cond b n (capped (n + 1)) ≡ capped m
with_core true n l m p q = omega arith
with_core false n l m p q = omega arith

pub with_keeps : (n : Need) (h m : ℕ) → m ≡ need_with n h → (t : Tree) → Keeps n t → m ≡ capped (need t h)
with_keeps n h m e t k =
    e ∙ ap (λ (b : Bool). cond b n.count (capped (n.count + 1))) (k.members h) ∙ with_core (reaches t h) n.count (least t) (need t h) k.number (determined t h)

-- two halves
pub joined_keeps : (a b n : Need) → JoinedTo a b n → (low high : Tree) → Keeps a low → Keeps b high → Keeps n (Fork low high)
joined_keeps a b n j low high p q = step (meet low high) refl
  where
    sets : (k : ℕ) → (among a k && among b k) ≡ both low high k
    sets k = ap₂ ◌&&◌ (p.members k) (q.members k)

    step : (m : Bool) → meet low high ≡ m → Keeps n (Fork low high)
    step true e =
        let k = (meet_is low high).0 e in
        let is = j.meeting k.0 (sets k.0 ∙ k.1) in
        let tree = (joined low high).0 e in
        record { number = omega (arith, is.0, p.number, q.number, tree.0); members = λ i. is.1 i ∙ sets i ∙ sym (tree.1 i) }
    step false e =
        let is = j.apart (λ k. sets k ∙ (meet_is low high).1 e k) in
        let tree = (joined low high).1 e in
        record { number = omega (arith, is.0, p.number, q.number, tree.0); members = λ i. is.1 i ∙ ap₂ ◌||◌ (p.members i) (q.members i) ∙ sym (tree.1 i) }

-- what the code makes of them, by whether nothing is shared
pub joined_by : (a b n : Need) (s u : HopSet) (e : Bool) → ((k : ℕ) → has s k ≡ (among a k && among b k)) → ((k : ℕ) → has u k ≡ (among a k || among b k)) → Empty s e →
    n.count ≡ capped (a.count + b.count + cond e 1 0) → ((k : ℕ) → among n k ≡ cond e (has u k) (has s k)) → JoinedTo a b n
joined_by a b n s u true m o z c h = record { meeting = λ k e. absurd (both_ways _ (z k) (m k ∙ e)); apart = λ _. (c, λ k. h k ∙ o k) }
joined_by a b n s u false m o z c h = record { meeting = λ _ _. (omega arith, λ k. h k ∙ m k); apart = λ none. absurd (both_ways _ (none z.0) (sym (m z.0) ∙ z.1)) }

-- an edge
count_keeps : (n x : ℕ) (a : Need) (t : Tree) → Keeps a t → count_above n x a ≡ capped (least_above n x t)
count_keeps zero x a t k = k.number
count_keeps (suc n) x a t k = with_keeps a x _ refl t k

pub lifted_keeps : (n x : ℕ) (a r : Need) → LiftedTo n x a r → (bs : Bits) (t : Tree) → length bs ≡ n → Keeps a t → Keeps r (edge x bs t)
lifted_keeps n x a r l bs t e k =
    let tree = edge_kept x bs t in
    record {
      number = l.number ∙ count_keeps n x a t k ∙ ap (λ (m : ℕ). capped (least_above m x t)) (sym e) ∙ ap capped (sym tree.0);
      members = λ j. l.members j ∙ ap₂ (λ (m : ℕ) (s : ℕ → Bool). reach_above m x s j) (sym e) (same_set a t k) ∙ sym (tree.1 j);
    }

-- THE CHOICE

-- the lowest of what both sets have, where neither has h
pub lowest_chooses : (a b : Need) (s : HopSet) (h : ℕ) (c : Option ℕ) → Lowest s c → ((k : ℕ) → has s k ≡ (among a k && among b k)) → (among a h || among b h) ≡ false →
    Chooses (among a) (among b) h c
lowest_chooses a b s h None l m n = λ k e. absurd (both_ways _ (l k) (m k ∙ e))
lowest_chooses a b s h (Some k) l m n = (sym (m k) ∙ l.0, λ j e. l.1 j (m j ∙ e), n)

pub chosen_lines : (a b : Need) (h : ℕ) (c : Option ℕ) → Chooses (among a) (among b) h c →
    (low high : Tree) → Keeps a low → Keeps b high → prescribed (Fork low high) h ≡ lines_by c h (prescribed low) (prescribed high)
chosen_lines a b h c s low high p q =
    (chosen low high h).1 c
    (subst (λ (u : ℕ → Bool). Chooses (reaches low) u h c) (same_set b high q) (subst (λ (u : ℕ → Bool). Chooses u (among b) h c) (same_set a low p) s))

-- THE LINES ALONG AN EDGE

pub along_lines : (n : Need) (w x h : ℕ) (c : Along) → c ≡ along w x (among n) h →
    (bs : Bits) (t : Tree) → length bs ≡ w → Keeps n t → prescribed (edge x bs t) h ≡ between c x h bs (prescribed t)
along_lines n w x h c e bs t l k =
    edge_lines x bs t h ∙
    ap (λ (d : Along). between d x h bs (prescribed t)) (ap₂ (λ (m : ℕ) (s : ℕ → Bool). along m x s h) l (sym (same_set n t k)) ∙ sym e)
