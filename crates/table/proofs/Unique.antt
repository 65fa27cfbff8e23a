-- Of the lists with the same members one only is in a strict order. Assumes nothing.
use Rattle.std.proofs.Common.{◌≡◌, Bool, true, false, ◌&&◌, ◌||◌, List, [], ◌∷◌, sym, refl, ◌∙◌, subst, ap₂, arith}
use Rattle.std.proofs.lemmas.Bool.{and_parts, both_ways}
use Rattle.std.proofs.lemmas.Bool.Decides.{nat_tests}

-- tests of things and of lists of them: whether two are the same, whether one comes before another; whether one is in a list, whether it comes
-- before all of a list, and whether each of a list comes before all that follow it
pub record Listed {X : Type 0} (is before : X → X → Bool) (among heads : X → List X → Bool) (ordered : List X → Bool) : Type 0 where
  pub is_eq : (x y : X) → is x y ≡ true → x ≡ y
  pub is_refl : (x : X) → is x x ≡ true
  pub irrefl : (x : X) → before x x ≡ false
  pub trans : (x y z : X) → before x y ≡ true → before y z ≡ true → before x z ≡ true
  pub among_none : (x : X) → among x [] ≡ false
  pub among_more : (x y : X) (ys : List X) → among x (y ∷ ys) ≡ (is x y || among x ys)
  pub heads_more : (x y : X) (ys : List X) → heads x (y ∷ ys) ≡ (before x y && heads x ys)
  pub ordered_more : (x : X) (xs : List X) → ordered (x ∷ xs) ≡ (heads x xs && ordered xs)

module _ {X : Type 0} {is before : X → X → Bool} {among heads : X → List X → Bool} {ordered : List X → Bool} (l : Listed is before among heads ordered) where
  abbrev Same : List X → List X → Type 0
  Same xs ys = (z : X) → among z xs ≡ among z ys

  among_first : (x : X) (xs : List X) → among x (x ∷ xs) ≡ true
  among_first x xs = grind (arith, nat_tests, l.among_more x x xs, l.is_refl x)

  heads_among : (x y : X) (xs : List X) → heads x xs ≡ true → among y xs ≡ true → before x y ≡ true
  heads_among x y [] h k = absurd (both_ways (among y []) (l.among_none y) k)
  heads_among x y (z ∷ zs) h k = grind (arith, nat_tests, heads_among x y zs, l.heads_more x z zs, l.among_more y z zs, l.is_eq y z)

  first_same : (x y : X) (xs ys : List X) → heads x xs ≡ true → heads y ys ≡ true → Same (x ∷ xs) (y ∷ ys) → x ≡ y
  first_same x y xs ys h k e =
      grind (
        arith,
        nat_tests,
        e x,
        e y,
        among_first x xs,
        among_first y ys,
        l.among_more x y ys,
        l.among_more y x xs,
        l.is_eq x y,
        l.is_eq y x,
        heads_among x y xs h,
        heads_among y x ys k,
        l.trans x y x,
        l.irrefl x,
      )

  absent : (x z : X) (xs : List X) → heads x xs ≡ true → is z x ≡ true → among z xs ≡ false
  absent x z xs h i = grind (arith, nat_tests, heads_among x z xs h, l.is_eq z x i, l.irrefl x)

  rest_same : (x : X) (xs ys : List X) → heads x xs ≡ true → heads x ys ≡ true → Same (x ∷ xs) (x ∷ ys) → Same xs ys
  rest_same x xs ys h k e z = grind (arith, nat_tests, absent x z xs h, absent x z ys k, l.among_more z x xs, l.among_more z x ys, e z)

  pub unique : (xs ys : List X) → ordered xs ≡ true → ordered ys ≡ true → Same xs ys → xs ≡ ys
  unique [] [] h k e = refl
  unique [] (y ∷ ys) h k e = absurd (both_ways (among y []) (l.among_none y) (e y ∙ among_first y ys))
  unique (x ∷ xs) [] h k e = absurd (both_ways (among x []) (l.among_none x) (sym (e x) ∙ among_first x xs))
  unique (x ∷ xs) (y ∷ ys) h k e =
      let a = and_parts (heads x xs) (ordered xs) (sym (l.ordered_more x xs) ∙ h) in
      let b = and_parts (heads y ys) (ordered ys) (sym (l.ordered_more y ys) ∙ k) in
      let i = first_same x y xs ys a.0 b.0 e in
      let P : X → Type 0 = λ z. (heads z ys ≡ true) × Same (x ∷ xs) (z ∷ ys) in
      let p = subst P (sym i) (b.0, e) in
      ap₂ (λ (z : X) (zs : List X). z ∷ zs) i (unique xs ys a.1 b.1 (rest_same x xs ys a.0 p.0 p.1))
