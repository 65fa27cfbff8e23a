-- What is picked from a table after a put or a drop: what an address sees at a length, and what stands at a prefix. Assumes nothing.
use Rattle.std.proofs.Common.{◌≡◌, ℕ, zero, suc, ◌≤◌, Bool, true, false, if◌then◌else◌, eqb, [], ◌∷◌, length, take, Some, None, sym, refl, ap, ◌∙◌, arith}
use Rattle.std.proofs.lemmas.Bool.{and_parts, and_from, eqb-true}
use Rattle.std.proofs.lemmas.Bool.Decides.{nat_tests}
use Rattle.prefix.specs.Bits.{Bits, begins, same}
use Rattle.prefix.proofs.Strings.{same_eq, same_refl}
use Rattle.prefix.proofs.Order.{begins_is}
use Rattle.table.specs.Tables.{Entry, Entries, every, has, pick, without, insert, put, sits}
use Rattle.table.specs.Laws.{SeenAt, SeenPut, SeenWithout, AtPut, AtWithout}

-- prefixes and what is removed

pub has_without : (p : Bits) (t : Entries) → has p (without p t) ≡ false
unfolding has without
has_without p [] = refl
has_without p (e ∷ es) = grind (arith, nat_tests, has_without p es)

pub has_fewer : (q p : Bits) (t : Entries) → has q t ≡ false → has q (without p t) ≡ false
unfolding has without
has_fewer q p [] h = refl
has_fewer q p (e ∷ es) h = grind (arith, nat_tests, has_fewer q p es)

pub without_none : (p : Bits) (t : Entries) → has p t ≡ false → without p t ≡ t
unfolding has without
without_none p [] h = refl
without_none p (e ∷ es) h = grind (arith, nat_tests, without_none p es)

-- tests that every line passes

module _ (f : Entry → Bool) where
  pub every_parts : (e : Entry) (es : Entries) → every f (e ∷ es) ≡ true → (f e ≡ true) × (every f es ≡ true)
  unfolding every
  every_parts e es h = and_parts _ _ h

  pub every_from : (e : Entry) (es : Entries) → f e ≡ true → every f es ≡ true → every f (e ∷ es) ≡ true
  unfolding every
  every_from e es h k = and_from _ _ h k

  pub every_without : (p : Bits) (t : Entries) → every f t ≡ true → every f (without p t) ≡ true
  unfolding every without
  every_without p [] h = h
  every_without p (e ∷ es) h = grind (arith, nat_tests, every_without p es)

  pub every_insert : (e : Entry) (t : Entries) → f e ≡ true → every f t ≡ true → every f (insert e t) ≡ true
  unfolding every insert
  every_insert e [] g h = every_from e [] g h
  every_insert e (k ∷ ks) g h = grind (arith, nat_tests, every_insert e ks)

-- a test that no two prefixes pass
abbrev pub Single : (Bits → Bool) → Type 0
Single f = (p q : Bits) → f p ≡ true → f q ≡ true → p ≡ q

module _ (f : Bits → Bool) (single : Single f) where
  pub pick_without : (p : Bits) (t : Entries) → pick f (without p t) ≡ (if f p then None else pick f t)
  unfolding pick without
  pick_without p [] = grind (arith, nat_tests)
  pick_without p (e ∷ es) = grind (arith, nat_tests, pick_without p es, same_eq p e.prefix, same_refl e.prefix, single p e.prefix)

  pub pick_insert : (e : Entry) (t : Entries) → has e.prefix t ≡ false → pick f (insert e t) ≡ (if f e.prefix then Some e.hop else pick f t)
  unfolding pick insert has
  pick_insert e [] h = refl
  pick_insert e (g ∷ gs) h = grind (arith, nat_tests, pick_insert e gs, same_refl g.prefix, single e.prefix g.prefix)

  pub pick_put : (e : Entry) (t : Entries) → pick f (put e t) ≡ (if f e.prefix then Some e.hop else pick f t)
  pick_put e t = grind (arith, nat_tests, pick_insert e (without e.prefix t) (has_without e.prefix t), pick_without e.prefix t)

-- the two tests

pub sits_single : (a : Bits) (n : ℕ) → Single (λ p. sits p a n)
sits_single a n p q h k =
    let s = and_parts (begins p a) (eqb (length p) n) h in
    let r = and_parts (begins q a) (eqb (length q) n) k in
    let e : length p ≡ length q = eqb-true _ _ s.1 ∙ sym (eqb-true _ _ r.1) in
    (begins_is p a s.0).1 ∙ ap (λ m. take m a) e ∙ sym (begins_is q a r.0).1

pub same_single : (r : Bits) → Single (same r)
same_single r p q h k = sym (same_eq r p h) ∙ same_eq r q k

pub seen_put : SeenPut
seen_put e t a n = pick_put (λ p. sits p a n) (sits_single a n) e t

pub seen_without : SeenWithout
seen_without p t a n = pick_without (λ q. sits q a n) (sits_single a n) p t

pub at_put : AtPut
at_put e t p = pick_put (same p) (same_single p) e t

pub at_without : AtWithout
at_without q t p = pick_without (same p) (same_single p) q t

-- what an address sees at a length is what stands at its first bits

sits_is : (p a : Bits) (n : ℕ) → n ≤ length a → sits p a n ≡ same (take n a) p
unfolding begins same
sits_is [] a zero h = refl
sits_is [] [] (suc n) h = absurd (omega arith)
sits_is [] (y ∷ a) (suc n) h = grind (arith, nat_tests)
sits_is (x ∷ p) [] zero h = refl
sits_is (x ∷ p) [] (suc n) h = absurd (omega arith)
sits_is (x ∷ p) (y ∷ a) zero h = grind (arith, nat_tests)
sits_is (true ∷ p) (true ∷ a) (suc n) h = grind (arith, nat_tests, sits_is p a n (omega arith))
sits_is (true ∷ p) (false ∷ a) (suc n) h = refl
sits_is (false ∷ p) (true ∷ a) (suc n) h = refl
sits_is (false ∷ p) (false ∷ a) (suc n) h = grind (arith, nat_tests, sits_is p a n (omega arith))

pub seen_at : SeenAt
unfolding pick
seen_at [] a n h = refl
seen_at (e ∷ es) a n h = rw (sits_is e.prefix a n h, seen_at es a n h)
