-- One step of the look-up in a table of the code. Assumes nothing.
use Rattle.std.proofs.Common.{◌≡◌, ℕ, ◌+◌, ◌<◌, length, get_or, take, Some, None, vec_items, sym, ap, ◌∙◌, subst, ap₂, arith}
use Rattle.std.proofs.lemmas.List.{length-map, length-take-le}
use Rattle.prefix.specs.Bits.{Bits, common}
use Rattle.prefix.specs.Model.{bits}
use Rattle.table.specs.declared.route.Route.{Route}
use Rattle.table.specs.declared.table.Table.{Table}
use Rattle.table.specs.Routes.{entry_of}
use Rattle.table.specs.Tables.{Entry, find}
use Rattle.table.specs.Search.{entry_at, prefix_at, Ranked}
use Rattle.table.specs.Model.{entries}
use Rattle.table.proofs.Places.{entry_at_lem}
use Rattle.table.proofs.Longest.{Narrowed, Clear, finds_none, finds_last, narrows}

module _ (t : Table) (a key : Bits) (inv : Narrowed (entries t) a key) where
  at_front : (r : ℕ) → Ranked (entries t) key r → Ranked (entries t) (take (length key) a) r
  at_front r rank = let P : Bits → Type 0 = λ p. Ranked (entries t) p r in subst P inv.front rank

  pub step_none : Ranked (entries t) key 0 → None ≡ find (entries t) a
  step_none rank = finds_none (entries t) a (length key) inv.short inv.clear (at_front 0 rank)

  -- the last route that comes no later than the key, and how much of it the address shares
  module _ (i : ℕ) (rank : Ranked (entries t) key (i + 1)) (route : Route) (shared : ℕ) (is : route ≡ get_or (vec_items t.routes) i route) (shares : shared ≡ common (bits route.prefix) a) where
    entry_is : entry_at (entries t) i ≡ entry_of route
    entry_is = let w = rank.within in entry_at_lem (vec_items t.routes) i route (omega (arith, length-map (vec_items t.routes) entry_of)) is

    common_is : common (prefix_at (entries t) i) a ≡ shared
    common_is = ap (λ (e : Entry). common e.prefix a) entry_is ∙ sym shares

    pub step_found : shared ≡ length (bits route.prefix) → Some (record { len = shared; next_hop = route.next_hop }) ≡ find (entries t) a
    step_found e =
        let l : length (prefix_at (entries t) i) ≡ shared = ap (λ (x : Entry). length x.prefix) entry_is ∙ sym e in
        ap₂ (λ (n h : ℕ). Some (record { len = n; next_hop = h })) (sym l) (sym (ap (λ (x : Entry). x.hop) entry_is))
        ∙ finds_last (entries t) a (length key) i t.ordered inv.short inv.clear (at_front (i + 1) rank) (common_is ∙ sym l)

    pub step_shorter : (shared ≡ length (bits route.prefix) → ⊥) → (next : Bits) → next ≡ take shared a → Narrowed (entries t) a next × (length next < length key)
    step_shorter d next e =
        let n = narrows (entries t) a (length key) i t.ordered inv.short inv.clear (at_front (i + 1) rank) (λ z. d (sym common_is ∙ z ∙ ap (λ (x : Entry). length x.prefix) entry_is)) in
        let h : shared < length key = rw common_is at n.0 in
        let s = inv.short in
        let l : length next ≡ shared = ap length e ∙ length-take-le shared a (omega arith) in
        let P : ℕ → Type 0 = λ c. Clear (entries t) a c in (
          record {
            short = omega arith;
            front = e ∙ ap (λ m. take m a) (sym l);
            clear = subst P (common_is ∙ sym l) n.1;
          },
          omega arith,
        )
