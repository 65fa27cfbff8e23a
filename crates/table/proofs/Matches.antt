-- A look-up finds the longest line with which the address begins. Assumes nothing.
use Rattle.std.proofs.Common.{◌≡◌, ℕ, true, false, eqb, length, Some, None, Option, sym, refl, ◌∙◌, ap₂, inl, inr, arith}
use Rattle.std.proofs.lemmas.Bool.{and_from, and_parts, cases_Bool, cases_lt, eq-eqb, eqb-true}
use Rattle.prefix.specs.Bits.{Bits, begins}
use Rattle.table.specs.declared.lookups.Match.{Match}
use Rattle.table.specs.Tables.{Entry, Entries, matched, find, distinct, holds, sits, seen}
use Rattle.table.specs.Laws.{Longest, LongestLine}
use Rattle.table.proofs.Picks.{sits_single}
use Rattle.table.proofs.Tops.{Highest, seen_far, find_highest, highest_top, topmost}
use Rattle.table.proofs.Alike.{held_picks, picked}

module _ (t : Entries) (a : Bits) (d : distinct t ≡ true) where
  -- a line with which the address begins is seen at its length
  held_seen : (e : Entry) → holds e t ≡ true → begins e.prefix a ≡ true → seen t a (length e.prefix) ≡ Some e.hop
  held_seen e h b =
      held_picks (λ p. sits p a (length e.prefix)) (sits_single a (length e.prefix)) e t d h (and_from _ _ b (eq-eqb (length e.prefix) (length e.prefix) refl))

  -- and what is seen is such a line
  seen_line : (n x : ℕ) → seen t a n ≡ Some x → (e : Entry) × (holds e t ≡ true) × (begins e.prefix a ≡ true) × (length e.prefix ≡ n) × (e.hop ≡ x)
  seen_line n x h =
      let p = picked (λ q. sits q a n) t x h in
      let s = and_parts (begins p.line.prefix a) (eqb (length p.line.prefix) n) p.passes in
      (p.line, p.held, s.0, eqb-true _ _ s.1, p.gives)

  by_seen : (o : Option ℕ) → ((x : ℕ) → o ≡ Some x → ⊥) → o ≡ None
  by_seen None h = refl
  by_seen (Some x) h = absurd (h x refl)

  finds : (e : Entry) → LongestLine t a e → find t a ≡ Some (matched e)
  unfolding Highest
  finds e l =
      topmost t a ∙ sym (highest_top (seen t a) (Some (matched e)) (length a)
      (held_seen e l.held l.begun, λ n h. by_seen (seen t a n) (λ x s. let f = seen_line n x s in omega (arith, l.longest f.0 f.1 f.2, f.3)))
      (λ n h. seen_far t a n h))

  found : (m : Match) (o : Option Match) → o ≡ Some m → Highest (seen t a) o → (e : Entry) × LongestLine t a e × (matched e ≡ m)
  unfolding Highest
  found m None e h = absurd (cc)
  found m (Some k) e h =
      let same : k ≡ m = cc in
      let f = seen_line k.len k.next_hop h.0 in (
        f.0,
        record {
          held = f.1;
          begun = f.2;
          longest = λ g i b. elim (cases_lt (length f.0.prefix) (length g.prefix)) [
            | inl y ↦ absurd (cc (held_seen g i b, h.1 (length g.prefix) (omega (arith, f.3))))
            | inr y ↦ y
          ];
        },
        ap₂ (λ (n x : ℕ). record { len = n; next_hop = x }) f.3 f.4 ∙ same,
      )

  none : (o : Option Match) → o ≡ None → Highest (seen t a) o → (e : Entry) → holds e t ≡ true → begins e.prefix a ≡ false
  unfolding Highest
  none None e h f i =
      elim (cases_Bool (begins f.prefix a)) [
        | inl y ↦ absurd (cc (held_seen f i y, h (length f.prefix)))
        | inr y ↦ y
      ]
  none (Some k) e h f i = absurd (cc)

pub longest : Longest
longest t a d = (finds t a d, (λ m e. found t a d m (find t a) e (find_highest t a)), λ e. none t a d (find t a) e (find_highest t a))
