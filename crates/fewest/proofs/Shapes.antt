-- Trees of another shape that send the same: the same need, and the same prescribed lines. Assumes nothing.
use Rattle.std.proofs.Common.{◌≡◌, ℕ, zero, suc, ◌+◌, Bool, true, false, cond, not, ◌&&◌, ◌||◌, [], ◌∷◌, sym, refl, ap, ◌∙◌, ap₂}
use Rattle.std.proofs.lemmas.Bool.{eq-eqb, and_parts}
use Rattle.table.specs.Examples.{line}
use Rattle.table.specs.Tables.{Entries, sends}
use Rattle.fewest.specs.Trees.{Tree, Leaf, Fork, Fits, tree_of, goes, all_to}
use Rattle.fewest.specs.Needs.{need, least, reaches, both, meet}
use Rattle.fewest.specs.Prescribed.{forked, best, prescribed}
use Rattle.fewest.specs.Laws.{ShapeIsFree}
use Rattle.fewest.proofs.Forks.{all_prescribed}
use Rattle.fewest.proofs.Kept.{determined, uniform_kept, meet_is, meet_from, meet_not, joined, writes, best_reaches, best_least, stays, writes_line}
use Rattle.fewest.proofs.Rivals.{build, build_same, tree_build, all_same}

-- two trees are kept as one, and have the same lines
pub record Like (t u : Tree) : Type 0 where
  pub number : least t ≡ least u
  pub set : (k : ℕ) → reaches t k ≡ reaches u k
  pub lines : (h : ℕ) → prescribed t h ≡ prescribed u h

pub like_need : (t u : Tree) → Like t u → (h : ℕ) → need t h ≡ need u h
like_need t u p h = determined t h ∙ ap₂ (λ (b : Bool) (n : ℕ). cond b n (suc n)) (p.set h) p.number ∙ sym (determined u h)

pub like_all : (x : ℕ) (t u : Tree) → all_to x t ≡ true → all_to x u ≡ true → Like t u
like_all x t u p q =
    let a = uniform_kept x t p in
    let b = uniform_kept x u q in
    record {
      number = a.0 ∙ sym b.0;
      set = λ k. a.1 k ∙ sym (b.1 k);
      lines = λ h. all_prescribed x t h p ∙ sym (all_prescribed x u h q);
    }

module _ (l r s t : Tree) (p : Like l s) (q : Like r t) where
  both_like : (k : ℕ) → both l r k ≡ both s t k
  both_like k = ap₂ ◌&&◌ (p.set k) (q.set k)

  meet_like : meet l r ≡ meet s t
  meet_like = step (meet l r) refl
    where
      step : (b : Bool) → meet l r ≡ b → b ≡ meet s t
      step true e = let k = (meet_is l r).0 e in sym (meet_from s t k.0 (sym (both_like k.0) ∙ k.1))
      step false e = sym (meet_not s t (λ k. sym (both_like k) ∙ (meet_is l r).1 e k))

  writes_like : (h : ℕ) → writes l r h ≡ writes s t h
  writes_like h = ap₂ (λ (a b : Bool). a && not b) meet_like (ap₂ ◌||◌ (p.set h) (q.set h))

  fork_lines : (h : ℕ) → prescribed (Fork l r) h ≡ prescribed (Fork s t) h
  fork_lines h = step (writes l r h) refl
    where
      step : (b : Bool) → writes l r h ≡ b → prescribed (Fork l r) h ≡ prescribed (Fork s t) h
      step false e = stays l r h e ∙ ap₂ forked (p.lines h) (q.lines h) ∙ sym (stays s t h (sym (writes_like h) ∙ e))
      step true e =
          let m : meet l r ≡ true = (and_parts (meet l r) (not (reaches l h || reaches r h)) e).0 in
          let k : ℕ = best l r in
          let here : both l r k ≡ true = best_reaches l r m in
          writes_line l r h k e here (best_least l r m) ∙ ap₂ (λ (a b : Entries). line [] k ∷ forked a b) (p.lines k) (q.lines k) ∙
          sym (writes_line s t h k (sym (writes_like h) ∙ e) (sym (both_like k) ∙ here) (λ j i. best_least l r m j (both_like j ∙ i)))

  pub like_fork : Like (Fork l r) (Fork s t)
  like_fork = step (meet l r) refl
    where
      step : (b : Bool) → meet l r ≡ b → Like (Fork l r) (Fork s t)
      step true e =
          let a = (joined l r).0 e in
          let b = (joined s t).0 (sym meet_like ∙ e) in
          record { number = a.0 ∙ ap₂ ◌+◌ p.number q.number ∙ sym b.0; set = λ k. a.1 k ∙ both_like k ∙ sym (b.1 k); lines = fork_lines }
      step false e =
          let a = (joined l r).1 e in
          let b = (joined s t).1 (sym meet_like ∙ e) in
          record {
            number = a.0 ∙ ap₂ (λ (m n : ℕ). m + n + 1) p.number q.number ∙ sym b.0;
            set = λ k. a.1 k ∙ ap₂ ◌||◌ (p.set k) (q.set k) ∙ sym (b.1 k);
            lines = fork_lines;
          }

-- a tree and that of all the bits that it sends by
pub shape : (w : ℕ) (t : Tree) → Fits w t → Like (build w (goes t)) t
unfolding build goes
shape w (Leaf x) f = like_all x (build w (λ a. x)) (Leaf x) (all_same w x) (unfold all_to in eq-eqb x x refl)
shape zero (Fork l r) f = absurd f
shape (suc w) (Fork l r) f = like_fork _ _ l r (shape w l f.0) (shape w r f.1)

pub shape_is_free : ShapeIsFree
shape_is_free w u t f e =
    let same : tree_of w u ≡ build w (goes t) = tree_build w (sends u) [] ∙ build_same w (sends u) (goes t) (λ a n. sym (e a n)) in
    let s = shape w t f in
    (ap (λ (v : Tree). need v 0) same ∙ like_need _ t s 0, ap (λ (v : Tree). prescribed v 0) same ∙ s.lines 0)
