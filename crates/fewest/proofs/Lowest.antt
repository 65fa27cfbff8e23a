-- The lowest over a list, and the best of a list. Assumes nothing.
use Rattle.std.proofs.Common.{◌≡◌, ℕ, ◌≤◌, Bool, true, false, cond, ◌||◌, eqb, ◌⊎◌, List, [], ◌∷◌, refl, ap, inl, inr, ⊎_elim, arith}
use mathlib.Core.Bool.{false≢true}
use Rattle.std.proofs.lemmas.Bool.{or_cases, or_left, or_right, cond_both, eq-eqb, eqb-true}
use Rattle.std.proofs.lemmas.Bool.Decides.{nat_tests}
use Rattle.std.specs.List.{list_any}
use Rattle.fewest.specs.Trees.{elem}
use Rattle.fewest.specs.Needs.{lowest_over}
use Rattle.fewest.specs.Prescribed.{better, best_of}

pub elem_here : (x : ℕ) (xs : List ℕ) → elem x (x ∷ xs) ≡ true
elem_here x xs = or_left (eqb x x) (elem x xs) (eq-eqb x x refl)

pub elem_one : (k x : ℕ) → elem k (x ∷ []) ≡ eqb k x
elem_one k x = grind arith

-- some element passes a test exactly if one does
pub some_elem : (f : ℕ → Bool) (xs : List ℕ) → list_any f xs ≡ true → (k : ℕ) × (elem k xs ≡ true) × (f k ≡ true)
some_elem f [] e = absurd (false≢true e)
some_elem f (x ∷ xs) e =
    let later : list_any f xs ≡ true → (k : ℕ) × (elem k xs ≡ true) × (f k ≡ true) = some_elem f xs in
    ⊎_elim
    (λ (i : f x ≡ true). (x, or_left (eqb x x) (elem x xs) (eq-eqb x x refl), i))
    (λ (i : list_any f xs ≡ true). let k = later i in (k.0, or_right (eqb k.0 x) (elem k.0 xs) k.1, k.2))
    (or_cases (f x) (list_any f xs) e)

pub elem_some : (f : ℕ → Bool) (xs : List ℕ) (k : ℕ) → elem k xs ≡ true → f k ≡ true → list_any f xs ≡ true
elem_some f [] k e i = absurd (false≢true e)
elem_some f (x ∷ xs) k e i =
    let later : elem k xs ≡ true → list_any f xs ≡ true = λ j. elem_some f xs k j i in
    ⊎_elim
    (λ (j : eqb k x ≡ true). or_left (f x) (list_any f xs) (rw (eqb-true k x j) at i))
    (λ (j : elem k xs ≡ true). or_right (f x) (list_any f xs) (later j))
    (or_cases (eqb k x) (elem k xs) e)

-- the lowest is no higher than any, and as high as what is no higher than any
pub lowest_elem : (f : ℕ → ℕ) (n : ℕ) (xs : List ℕ) (k : ℕ) → elem k xs ≡ true → lowest_over f n xs ≤ f k
unfolding lowest_over
lowest_elem f n [] k e = absurd (false≢true e)
lowest_elem f n (x ∷ xs) k e =
    let later : elem k xs ≡ true → lowest_over f n xs ≤ f k = lowest_elem f n xs k in
    ⊎_elim (λ (i : eqb k x ≡ true). omega (arith, ap f (eqb-true k x i))) (λ (i : elem k xs ≡ true). omega (arith, later i)) (or_cases (eqb k x) (elem k xs) e)

pub lowest_from : (f : ℕ → ℕ) (n : ℕ) (xs : List ℕ) (c : ℕ) → c ≤ n → ((k : ℕ) → elem k xs ≡ true → c ≤ f k) → c ≤ lowest_over f n xs
unfolding lowest_over
lowest_from f n [] c h g = h
lowest_from f n (x ∷ xs) c h g =
    let here : c ≤ f x = g x (or_left (eqb x x) (elem x xs) (eq-eqb x x refl)) in
    let there : c ≤ lowest_over f n xs = lowest_from f n xs c h (λ k i. g k (or_right (eqb k x) (elem k xs) i)) in
    omega arith

-- the best has the lowest value, and is the lowest that has it
abbrev pub Wins : (ℕ → ℕ) → ℕ → ℕ → Type 0
Wins f k j = (f k ≤ f j) × (f k ≡ f j → k ≤ j)

better_first : (f : ℕ → ℕ) (x k : ℕ) → Wins f (cond (better f x k) x k) x
better_first f x k =
    cond_both (better f x k) x k (λ y. Wins f y x) (λ t. (omega arith, λ _. omega arith)) (λ t. (grind (arith, nat_tests), λ e. grind (arith, nat_tests)))

better_second : (f : ℕ → ℕ) (x k : ℕ) → Wins f (cond (better f x k) x k) k
better_second f x k =
    cond_both (better f x k) x k (λ y. Wins f y k) (λ t. (grind (arith, nat_tests), λ e. grind (arith, nat_tests))) (λ t. (omega arith, λ _. omega arith))

wins_trans : (f : ℕ → ℕ) (a b c : ℕ) → Wins f a b → Wins f b c → Wins f a c
wins_trans f a b c p q = (omega arith, λ e. omega arith)

pub best_wins : (f : ℕ → ℕ) (d : ℕ) (xs : List ℕ) (j : ℕ) → elem j xs ≡ true → Wins f (best_of f d xs) j
unfolding best_of
best_wins f d [] j h = absurd (false≢true h)
best_wins f d (x ∷ xs) j h = ⊎_elim (λ e. here e) (λ e. there (best_wins f d xs j e)) (or_cases (eqb j x) (elem j xs) h)
  where
    new : ℕ
    new = cond (better f x (best_of f d xs)) x (best_of f d xs)

    here : eqb j x ≡ true → Wins f new j
    here e = rw (eqb-true j x e) (better_first f x (best_of f d xs))

    there : Wins f (best_of f d xs) j → Wins f new j
    there w = wins_trans f new (best_of f d xs) j (better_second f x (best_of f d xs)) w

pub best_in : (f : ℕ → ℕ) (d : ℕ) (xs : List ℕ) → (best_of f d xs ≡ d) ⊎ (elem (best_of f d xs) xs ≡ true)
unfolding best_of
best_in f d [] = inl refl
best_in f d (x ∷ xs) = step (better f x (best_of f d xs)) (best_in f d xs)
  where
    step : (b : Bool) → (best_of f d xs ≡ d) ⊎ (elem (best_of f d xs) xs ≡ true) →
        (cond b x (best_of f d xs) ≡ d) ⊎ ((eqb (cond b x (best_of f d xs)) x || elem (cond b x (best_of f d xs)) xs) ≡ true)
    step true i = inr (or_left (eqb x x) (elem x xs) (eq-eqb x x refl))
    step false (inl e) = inl e
    step false (inr e) = inr (or_right (eqb (best_of f d xs) x) (elem (best_of f d xs) xs) e)
