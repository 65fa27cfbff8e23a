-- The routes along an edge. Assumes nothing.
use Rattle.std.proofs.Common.{◌≡◌, ℕ, zero, suc, ◌-◌, ◌<◌, ◌≤◌, Bool, true, false, cond, not, ◌||◌, eqb, [], ◌∷◌, ◌++◌, length, take, drop, Some, None, Option, sym, refl, ap, ◌∙◌, subst, ap₂, append-nil, arith, length-drop, take-append-drop}
use Rattle.std.specs.List.{slice_get}
use Rattle.prefix.specs.Bits.{Bits}
use Rattle.table.specs.declared.route.Route.{Route}
use Rattle.table.specs.Examples.{line}
use Rattle.table.specs.Tables.{Entries}
use Rattle.fewest.specs.declared.along.Along.{Along}
use Rattle.fewest.specs.declared.along.Along.TheVariants.{Nothing, Top, Sides}
use Rattle.fewest.specs.Trees.{Tree}
use Rattle.fewest.specs.Prescribed.{beneath, prescribed}
use Rattle.fewest.specs.Edges.{along, onward, sides_before, sides_after, lines_before, lines_after}
use Rattle.fewest.proofs.Halves.{beneath_append, beneath_beneath, beneath_empty, beneath_line}
use Rattle.aggregate.specs.declared.need.Need.{Need}
use Rattle.aggregate.specs.declared.edge.EdgeRoutes.{EdgeRoutes}
use Rattle.aggregate.specs.Model.{among, Keeps}
use Rattle.aggregate.specs.Routes.{line_of, lines_of, sides, side_at, Brought, Surrounds}
use Rattle.aggregate.proofs.Keeping.{along_lines}

-- ONE BIT

-- past the end of a prefix there is none
pub bit_past : (p : Bits) (i : ℕ) → None ≡ slice_get p i → take 1 (drop i p) ≡ []
bit_past [] zero e = refl
bit_past [] (suc i) e = refl
bit_past (b ∷ p) zero e = cc
bit_past (b ∷ p) (suc i) e = bit_past p i e

pub bit_at : (p : Bits) (i : ℕ) (b : Bool) → Some b ≡ slice_get p i → take 1 (drop i p) ≡ b ∷ []
bit_at [] i b e = cc
bit_at (c ∷ p) zero b e = let s : c ≡ b = cc in ap (λ (d : Bool). d ∷ []) s
bit_at (c ∷ p) (suc i) b e = bit_at p i b e

-- the line on its other side: there is none where there is no bit,
pub none_aside : (b : Bool) (x : ℕ) (q d : Bits) → d ≡ [] → [] ≡ beneath q (sides b x d)
unfolding sides_before sides_after beneath
none_aside true x q d e = rw e
none_aside false x q d e = rw e

-- none before a bit 0 and none after a bit 1,
pub other_aside : (b c : Bool) (x : ℕ) (q d : Bits) → d ≡ c ∷ [] → (c ≡ b → ⊥) → [] ≡ beneath q (sides b x d)
unfolding sides_before sides_after beneath
other_aside true true x q d e n = absurd (n refl)
other_aside true false x q d e n = rw e
other_aside false true x q d e n = rw e
other_aside false false x q d e n = absurd (n refl)

-- and one before a bit 1 and after a bit 0
pub own_aside : (b : Bool) (x : ℕ) (q d : Bits) → d ≡ b ∷ [] → line (q ++ (not b ∷ [])) x ∷ [] ≡ beneath q (sides b x d)
unfolding sides_before sides_after beneath
own_aside true x q d e = rw e
own_aside false x q d e = rw e

-- ONE OR TWO BITS

-- two lists of lines in their order: after the bits, those of the second bit come first
abbrev ordered : Bool → Entries → Entries → Entries
ordered true s t = s ++ t
ordered false s t = t ++ s

beneath_ordered : (f : Bool) (p : Bits) (s t : Entries) → beneath p (ordered f s t) ≡ ordered f (beneath p s) (beneath p t)
beneath_ordered true p s t = beneath_append p s t
beneath_ordered false p s t = beneath_append p t s

-- the lines aside of one or two bits are those of the first and those of the second
sides_two : (f : Bool) (x i : ℕ) (p : Bits) → 0 < length (drop i p) → length (drop i p) ≤ 2 →
    beneath (take i p) (sides f x (drop i p)) ≡ ordered f (side_at f x p i) (side_at f x p (suc i))
sides_two f x (suc i) [] l m = absurd (omega arith)
sides_two f x (suc i) (b ∷ p) l m =
    sym (beneath_beneath (b ∷ []) (take i p) (sides f x (drop i p))) ∙
    ap (beneath (b ∷ [])) (sides_two f x i p l m) ∙
    beneath_ordered f (b ∷ []) (side_at f x p i) (side_at f x p (suc i)) ∙
    ap₂ (ordered f) (beneath_beneath (b ∷ []) (take i p) (sides f x (take 1 (drop i p)))) (beneath_beneath (b ∷ []) (take (suc i) p) (sides f x (take 1 (drop (suc i) p))))
sides_two f x zero [] l m = absurd (omega arith)
sides_two true x zero (false ∷ []) l m = unfold sides_before beneath in refl
sides_two true x zero (true ∷ []) l m = unfold sides_before beneath in refl
sides_two true x zero (false ∷ false ∷ []) l m = unfold sides_before beneath in refl
sides_two true x zero (false ∷ true ∷ []) l m = unfold sides_before beneath in refl
sides_two true x zero (true ∷ false ∷ []) l m = unfold sides_before beneath in refl
sides_two true x zero (true ∷ true ∷ []) l m = unfold sides_before beneath in refl
sides_two false x zero (false ∷ []) l m = unfold sides_after beneath in refl
sides_two false x zero (true ∷ []) l m = unfold sides_after beneath in refl
sides_two false x zero (false ∷ false ∷ []) l m = unfold sides_after beneath in refl
sides_two false x zero (false ∷ true ∷ []) l m = unfold sides_after beneath in refl
sides_two false x zero (true ∷ false ∷ []) l m = unfold sides_after beneath in refl
sides_two false x zero (true ∷ true ∷ []) l m = unfold sides_after beneath in refl
sides_two f x zero (a ∷ b ∷ c ∷ p) l m = absurd (omega arith)

-- lines stand aside only of one or two bits
pub along_sides : (n x : ℕ) (s : ℕ → Bool) (h : ℕ) → Sides ≡ along n x s h → (0 < n) × (n ≤ 2)
along_sides zero x s h e = cc
along_sides (suc zero) x s h e = (omega arith, omega arith)
along_sides (suc (suc zero)) x s h e = (omega arith, omega arith)
along_sides (suc (suc (suc n))) x s h e = absurd (no_sides (eqb (suc (suc (suc n))) 0 || eqb h x) e)
  where
    no_sides : (b : Bool) → Sides ≡ cond b Nothing Top → ⊥
    no_sides true e = cc
    no_sides false e = cc

-- THE WHOLE EDGE

module _ (p : Bits) (i x h : ℕ) (n : Need) (r : EdgeRoutes) where
  -- the choice along the edge's own bits
  abbrev choice : Along
  choice = along (length p - i) x (among n) h

  pub surrounds : (c : Along) → c ≡ choice → Brought p i x h c r → (t : Tree) → Keeps n t → Surrounds p i x h r t
  surrounds c is b t k =
      let u : Entries = prescribed t (onward c x h) in
      record {
        whole =
            ap (beneath (take i p)) (along_lines n (length p - i) x h c is (drop i p) t (length-drop i p) k) ∙
            beneath_append (take i p) (lines_before c x (drop i p)) (beneath (drop i p) u ++ lines_after c x (drop i p)) ∙
            ap₂ (λ (s v : Entries). s ++ v) (sym b.earlier)
            (beneath_append (take i p) (beneath (drop i p) u) (lines_after c x (drop i p)) ∙
            ap₂ (λ (s v : Entries). s ++ v)
            (beneath_beneath (take i p) (drop i p) u ∙ ap₂ (λ (q : Bits) (j : ℕ). beneath q (prescribed t j)) (take-append-drop i p) (sym b.on))
            (sym b.later));
      }

  -- what the code promises, if it brings what is written along the edge
  pub record Routed : Type 0 where
    pub value : Brought p i x h choice r
    pub lines : (t : Tree) → Keeps n t → Surrounds p i x h r t

  routed : (c : Along) → c ≡ choice → Brought p i x h c r → Routed
  routed c is b = record { value = subst (λ (a : Along). Brought p i x h a r) is b; lines = surrounds c is b }

  -- case by case
  pub nothing_routed : Nothing ≡ choice → lines_of r.before ≡ [] → lines_of r.after ≡ [] → r.onward ≡ h → Routed
  nothing_routed is b a o = routed Nothing is (record { earlier = b ∙ sym (beneath_empty (take i p)); later = a ∙ sym (beneath_empty (take i p)); on = o })

  pub top_routed : Top ≡ choice → lines_of r.before ≡ line (take i p) x ∷ [] → lines_of r.after ≡ [] → r.onward ≡ x → Routed
  top_routed is b a o = routed Top is (record {
    earlier = b ∙ ap₂ (λ (q : Bits) (s : Entries). line q x ∷ s) (sym (append-nil (take i p))) (sym (beneath_empty (take i p))) ∙ sym (beneath_line (take i p) [] x []);
    later = a ∙ sym (beneath_empty (take i p));
    on = o;
  })

  pub sides_routed : Sides ≡ choice → lines_of r.before ≡ side_at true x p i ++ side_at true x p (suc i) →
      lines_of r.after ≡ side_at false x p (suc i) ++ side_at false x p i → r.onward ≡ h → Routed
  sides_routed is b a o =
      let short = along_sides (length p - i) x (among n) h is in
      let some : 0 < length (drop i p) = omega (arith, length-drop i p, short.0) in
      let few : length (drop i p) ≤ 2 = omega (arith, length-drop i p, short.1) in
      routed Sides is (record {
        earlier = b ∙ sym (sides_two true x i p some few);
        later = a ∙ sym (sides_two false x i p some few);
        on = o;
      })

-- two routes that are there or not
pub two_lines : (a b : Option Route) (s t : Entries) → line_of a ≡ s → line_of b ≡ t → lines_of (a ∷ b ∷ []) ≡ s ++ t
two_lines a b s t e f = ap (λ (v : Entries). line_of a ++ v) (append-nil (line_of b)) ∙ ap₂ (λ (u v : Entries). u ++ v) e f
