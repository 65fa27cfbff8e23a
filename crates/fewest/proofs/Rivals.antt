-- The tree of beginnings, and that no table has fewer lines than its tree needs. Assumes nothing.
use Rattle.std.proofs.Common.{◌≡◌, ℕ, zero, suc, ◌+◌, ◌≤◌, Bool, true, false, cond, eqb, [], ◌∷◌, ◌++◌, length, replicate, sym, refl, ap, ◌∙◌, ap₂, ⊎_elim, append_assoc, append-nil, arith}
use Rattle.std.proofs.lemmas.Bool.{or_cases, cases_Bool, eq-eqb, eqb-true, and_from}
use Rattle.std.proofs.lemmas.Bool.Decides.{nat_tests}
use Rattle.std.proofs.lemmas.List.{length-replicate}
use Rattle.std.proofs.lemmas.List.Folds.{list_any-append}
use Rattle.prefix.specs.Bits.{Bits, Address}
use Rattle.table.specs.Tables.{Entries, find, sends, SendSame}
use Rattle.fewest.specs.Trees.{Tree, Leaf, Fork, Fits, tree_at, tree_of, goes, hops, elem, all_to}
use Rattle.fewest.specs.Needs.{need}
use Rattle.fewest.specs.Prescribed.{prescribed}
use Rattle.fewest.specs.Laws.{TreeSends, TreeHops, TreeUniform, NoneFewer, SendingDecides}
use Rattle.fewest.proofs.Lowest.{elem_one}
use Rattle.fewest.proofs.Forks.{fork_low, fork_high, fork_out, all_uniform, all_goes, need_stay, need_line, need_outside}
use Rattle.fewest.proofs.Split.{hop_or, sends_or, under, roots, hop_split, length_split, no_roots}

-- the tree of a function, by the first bit
unfoldable pub build : ℕ → (Bits → ℕ) → Tree
build zero f = Leaf (f [])
build (suc w) f = Fork (build w (λ a. f (false ∷ a))) (build w (λ a. f (true ∷ a)))

pub build_same : (w : ℕ) (f g : Bits → ℕ) → ((a : Bits) → Address w a → f a ≡ g a) → build w f ≡ build w g
unfolding build
build_same zero f g e = ap Leaf (e [] refl)
build_same (suc w) f g e =
    ap₂ Fork
    (build_same w (λ a. f (false ∷ a)) (λ a. g (false ∷ a)) (λ a n. e (false ∷ a) (ap suc n)))
    (build_same w (λ a. f (true ∷ a)) (λ a. g (true ∷ a)) (λ a n. e (true ∷ a) (ap suc n)))

pub tree_build : (v : ℕ) (f : Bits → ℕ) (b : Bits) → tree_at v f b ≡ build v (λ a. f (b ++ a))
unfolding build tree_at
tree_build zero f b = ap (λ (q : Bits). Leaf (f q)) (sym (append-nil b))
tree_build (suc v) f b = ap₂ Fork (side false (tree_build v f (b ++ (false ∷ [])))) (side true (tree_build v f (b ++ (true ∷ []))))
  where
    side : (c : Bool) → tree_at v f (b ++ (c ∷ [])) ≡ build v (λ a. f (b ++ (c ∷ []) ++ a)) → tree_at v f (b ++ (c ∷ [])) ≡ build v (λ a. f (b ++ (c ∷ a)))
    side c e = e ∙ build_same v (λ a. f (b ++ (c ∷ []) ++ a)) (λ a. f (b ++ (c ∷ a))) (λ a _. ap f (append_assoc b (c ∷ []) a))

pub build_fits : (w : ℕ) (f : Bits → ℕ) → Fits w (build w f)
unfolding build
build_fits zero f = tt
build_fits (suc w) f = (build_fits w (λ a. f (false ∷ a)), build_fits w (λ a. f (true ∷ a)))

pub build_goes : (w : ℕ) (f : Bits → ℕ) (a : Bits) → Address w a → goes (build w f) a ≡ f a
unfolding build goes
build_goes zero f [] n = refl
build_goes zero f (b ∷ a) n = absurd (omega arith)
build_goes (suc w) f [] n = absurd (omega arith)
build_goes (suc w) f (false ∷ a) n = build_goes w (λ c. f (false ∷ c)) a (omega arith)
build_goes (suc w) f (true ∷ a) n = build_goes w (λ c. f (true ∷ c)) a (omega arith)

pub build_elem : (w : ℕ) (f : Bits → ℕ) (a : Bits) → Address w a → elem (f a) (hops (build w f)) ≡ true
unfolding build
build_elem zero f [] n = unfold hops in elem_one (f []) (f []) ∙ eq-eqb (f []) (f []) refl
build_elem zero f (b ∷ a) n = absurd (omega arith)
build_elem (suc w) f [] n = absurd (omega arith)
build_elem (suc w) f (false ∷ a) n = fork_low _ _ _ (build_elem w (λ c. f (false ∷ c)) a (omega arith))
build_elem (suc w) f (true ∷ a) n = fork_high _ _ _ (build_elem w (λ c. f (true ∷ c)) a (omega arith))

pub build_hop : (w : ℕ) (f : Bits → ℕ) (k : ℕ) → elem k (hops (build w f)) ≡ true → (a : Bits) × Address w a × (f a ≡ k)
unfolding build hops
build_hop zero f k e = ([], refl, sym (eqb-true k (f []) (sym (elem_one k (f [])) ∙ e)))
build_hop (suc w) f k e = step (build_hop w (λ a. f (false ∷ a)) k) (build_hop w (λ a. f (true ∷ a)) k)
  where
    step : (elem k (hops (build w (λ a. f (false ∷ a)))) ≡ true → (a : Bits) × Address w a × (f (false ∷ a) ≡ k)) →
        (elem k (hops (build w (λ a. f (true ∷ a)))) ≡ true → (a : Bits) × Address w a × (f (true ∷ a) ≡ k)) → (a : Bits) × Address (suc w) a × (f a ≡ k)
    step p q = ⊎_elim
        (λ i. let a = p i in (false ∷ a.0, ap suc a.1, a.2))
        (λ i. let a = q i in (true ∷ a.0, ap suc a.1, a.2))
        (or_cases _ _ (sym (list_any-append _ (hops (build w (λ a. f (false ∷ a)))) (hops (build w (λ a. f (true ∷ a))))) ∙ e))

build_all : (w : ℕ) (f : Bits → ℕ) (x : ℕ) → ((a : Bits) → Address w a → f a ≡ x) → all_to x (build w f) ≡ true
unfolding build all_to
build_all zero f x e = eq-eqb (f []) x (e [] refl)
build_all (suc w) f x e = and_from _ _ (build_all w (λ a. f (false ∷ a)) x (λ a n. e (false ∷ a) (ap suc n))) (build_all w (λ a. f (true ∷ a)) x (λ a n. e (true ∷ a) (ap suc n)))

pub all_same : (w x : ℕ) → all_to x (build w (λ a. x)) ≡ true
all_same w x = build_all w (λ a. x) x (λ a n. refl)

-- the laws of the tree of beginnings
pub tree_sends : TreeSends
tree_sends v f b a n = ap (λ (t : Tree). goes t a) (tree_build v f b) ∙ build_goes v (λ c. f (b ++ c)) a n

pub tree_hops : TreeHops
tree_hops v f b k = (
  λ e. build_hop v (λ c. f (b ++ c)) k (rw (tree_build v f b) at e),
  λ a n e. ap (λ (t : Tree). elem k (hops t)) (tree_build v f b) ∙ ap (λ (j : ℕ). elem j (hops (build v (λ c. f (b ++ c))))) (sym e) ∙ build_elem v (λ c. f (b ++ c)) a n,
)

pub tree_uniform : TreeUniform
tree_uniform v f b = (
  λ e a c n m. sym (tree_sends v f b a n) ∙ all_goes _ (tree_at v f b) a e ∙ sym (all_goes _ (tree_at v f b) c e) ∙ tree_sends v f b c m,
  λ e. all_uniform (f (b ++ replicate v false)) (tree_at v f b)
      (ap (all_to (f (b ++ replicate v false))) (tree_build v f b) ∙ build_all v (λ c. f (b ++ c)) (f (b ++ replicate v false)) (λ a n. e a (replicate v false) n (length-replicate v false))),
)

-- at a fork: c lines for all addresses, of which the one that counts says k, and n and m below
fork_bound : (l r : Tree) (h k c n m : ℕ) → need l k ≤ n → need r k ≤ m → (c ≡ 0 → k ≡ h) → need (Fork l r) h ≤ c + (n + m)
fork_bound l r h k zero n m p q e = omega (arith, need_stay l r h, ap (need l) (e refl), ap (need r) (e refl))
fork_bound l r h k (suc c) n m p q e = ⊎_elim
    (λ (i : elem k (hops (Fork l r)) ≡ true). omega (arith, need_line l r h k i))
    (λ (i : elem k (hops (Fork l r)) ≡ false).
    let out = fork_out l r k i in
    omega (arith, need_stay l r h, need_outside l k h out.0, need_outside r k h out.1))
    (cases_Bool (elem k (hops (Fork l r))))

leaf_bound : (h : ℕ) (u : Entries) → need (Leaf (hop_or h (find u []))) h ≤ length u
unfolding find need
leaf_bound h [] = grind (arith, nat_tests)
leaf_bound h (e ∷ es) = small (eqb (hop_or h (find (e ∷ es) [])) h)
  where
    small : (b : Bool) → cond b 0 1 ≤ suc (length es)
    small true = omega arith
    small false = omega arith

-- whatever table it is, the tree of where it sends addresses does not need more lines than it has
rival : (w h : ℕ) (u : Entries) → need (build w (λ a. hop_or h (find u a))) h ≤ length u
unfolding build
rival zero h u = leaf_bound h u
rival (suc w) h u =
    let k : ℕ = hop_or h (find u []) in
    let half : (b : Bool) → need (build w (λ a. hop_or h (find u (b ∷ a)))) k ≤ length (under b u) =
    λ b. rw (build_same w (λ a. hop_or h (find u (b ∷ a))) (λ a. hop_or k (find (under b u) a)) (λ a _. hop_split h u b a)) (rival w k (under b u)) in
    rw (length_split u) (fork_bound _ _ h k (roots u) _ _ (half false) (half true) (no_roots h u))

-- the tree of a table is that of any that sends the same
pub tree_same : (w : ℕ) (t u : Entries) → SendSame w t u → tree_of w t ≡ tree_of w u
tree_same w t u e = tree_build w (sends t) [] ∙ build_same w (sends t) (sends u) e ∙ sym (tree_build w (sends u) [])

tree_own : (w : ℕ) (u : Entries) → tree_of w u ≡ build w (λ a. hop_or 0 (find u a))
tree_own w u = tree_build w (sends u) [] ∙ build_same w (sends u) (λ a. hop_or 0 (find u a)) (λ a _. sends_or u a)

pub none_fewer : NoneFewer
none_fewer w t u e = rw (tree_same w t u e ∙ tree_own w u) (rival w 0 u)

pub sending_decides_lem : SendingDecides
sending_decides_lem w t u e = (ap (λ (v : Tree). need v 0) (tree_same w t u e), ap (λ (v : Tree). prescribed v 0) (tree_same w t u e))
