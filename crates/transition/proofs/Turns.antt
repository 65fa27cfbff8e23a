-- The plan is as the rules say, and it is the only list of writes that is. Assumes nothing.
use Rattle.std.proofs.Common.{arith, ◌≡◌, ℕ, Bool, true, false, not, ◌&&◌, ◌||◌, eqb, ltb, List, [], ◌∷◌, ◌++◌, map, is_some, Some, None, Option, sym, refl, ap, ◌∙◌, ap₂}
use Rattle.std.specs.List.{AllByRecursion}
use Rattle.std.proofs.lemmas.Bool.{and_from}
use Rattle.std.proofs.lemmas.Grind.{common_steps}
use Rattle.std.proofs.lemmas.Bool.Decides.{nat_tests}
use Rattle.prefix.specs.Bits.{Bits, same}
use Rattle.prefix.proofs.Strings.{same_eq, same_refl}
use Rattle.table.specs.Tables.{Entry, Entries, has, holds, distinct, at}
use Rattle.table.proofs.Alike.{is_eq, is_refl}
use Rattle.table.proofs.Unique.{Listed, unique}
use Rattle.transition.specs.Writes.{Writing, Put, Drop}
use Rattle.transition.specs.Plans.{changed, fresh, is_longer, longest_first, shortest_first, dropping, plan, earlier, heads, in_turn, same_writing, among, Prescribed}
use Rattle.transition.specs.Laws.{PlanIs, ByDifference}
use Rattle.transition.proofs.Lines.{is_hop, has_at, holds_at, distinct_kept}
use Rattle.transition.proofs.Overlays.{putting, leaving, changed_of, fresh_of, putting_at, leaving_at, distinct_putting}
use Rattle.transition.proofs.Reach.{Pairs}
use Rattle.transition.specs.Passes.{longer_strict, shorter_strict}
use Rattle.transition.proofs.Orders.{order_trans, order_irrefl, order_sorted}

-- which writes there are

among_drops : (e : Entry) (fs : Entries) → among (Put e) (map dropping fs) ≡ false
unfolding among
among_drops e [] = refl
among_drops e (f ∷ fs) = among_drops e fs

among_puts : (e : Entry) (es fs : Entries) → among (Put e) (map Put es ++ map dropping fs) ≡ holds e es
unfolding among holds
among_puts e [] fs = among_drops e fs
among_puts e (x ∷ xs) fs = ap (λ b. (same e.prefix x.prefix && eqb e.hop x.hop) || b) (among_puts e xs fs)

among_dropped : (p : Bits) (fs : Entries) → among (Drop p) (map dropping fs) ≡ has p fs
unfolding among has
among_dropped p [] = refl
among_dropped p (f ∷ fs) = ap (λ b. same p f.prefix || b) (among_dropped p fs)

among_past : (p : Bits) (es fs : Entries) → among (Drop p) (map Put es ++ map dropping fs) ≡ has p fs
unfolding among
among_past p [] fs = among_dropped p fs
among_past p (x ∷ xs) fs = among_past p xs fs

changed_is : (o n : Option ℕ) (x : ℕ) → is_hop x (changed_of o n) ≡ (is_hop x n && not (is_hop x o))
changed_is o None x = refl
changed_is None (Some y) x = grind (arith, common_steps, nat_tests)
changed_is (Some z) (Some y) x = grind (arith, common_steps, nat_tests)

fresh_is : (o n : Option ℕ) → is_some (fresh_of n o) ≡ (is_some o && not (is_some n))
fresh_is None n = refl
fresh_is (Some y) None = refl
fresh_is (Some y) (Some x) = refl

-- their turns

heads_drops : (e : Entry) (fs : Entries) → heads (Put e) (map dropping fs) ≡ true
unfolding heads
heads_drops e [] = refl
heads_drops e (f ∷ fs) = heads_drops e fs

heads_puts : (e : Entry) (es fs : Entries) → AllByRecursion (λ f. longest_first e.prefix f.prefix ≡ true) es → heads (Put e) (map Put es ++ map dropping fs) ≡ true
unfolding heads
heads_puts e [] fs h = heads_drops e fs
heads_puts e (x ∷ xs) fs h = and_from _ _ h.0 (heads_puts e xs fs h.1)

heads_dropped : (e : Entry) (fs : Entries) → AllByRecursion (λ f. shortest_first e.prefix f.prefix ≡ true) fs → heads (dropping e) (map dropping fs) ≡ true
unfolding heads
heads_dropped e [] h = refl
heads_dropped e (f ∷ fs) h = and_from _ _ h.0 (heads_dropped e fs h.1)

turn_drops : (fs : Entries) → Pairs (λ e f. shortest_first e.prefix f.prefix ≡ true) fs → in_turn (map dropping fs) ≡ true
unfolding in_turn Pairs
turn_drops [] h = refl
turn_drops (f ∷ fs) h = and_from _ _ (heads_dropped f fs h.0) (turn_drops fs h.1)

turn_plan : (es fs : Entries) → Pairs (λ e f. longest_first e.prefix f.prefix ≡ true) es → Pairs (λ e f. shortest_first e.prefix f.prefix ≡ true) fs →
    in_turn (map Put es ++ map dropping fs) ≡ true
unfolding in_turn Pairs
turn_plan [] fs h k = turn_drops fs k
turn_plan (e ∷ es) fs h k = and_from _ _ (heads_puts e es fs h.0) (turn_plan es fs h.1 k)

pub plan_prescribed : (old new : Entries) → distinct old ≡ true → distinct new ≡ true → Prescribed old new (plan old new)
plan_prescribed old new od nd = record {
  put = λ e.
      among_puts e (putting old new) (leaving old new)
      ∙ holds_at e (putting old new) (distinct_putting old new nd)
      ∙ ap (is_hop e.hop) (putting_at old new e.prefix od nd)
      ∙ changed_is (at old e.prefix) (at new e.prefix) e.hop
      ∙ ap₂ (λ (x y : Bool). x && not y) (sym (holds_at e new nd)) (sym (holds_at e old od));
  dropped = λ p.
      among_past p (putting old new) (leaving old new)
      ∙ has_at p (leaving old new)
      ∙ ap is_some (leaving_at old new p od)
      ∙ fresh_is (at old p) (at new p)
      ∙ ap₂ (λ (x y : Bool). x && not y) (sym (has_at p old)) (sym (has_at p new));
  order = turn_plan (putting old new) (leaving old new)
      (order_sorted is_longer longer_strict (changed old new) (distinct_kept (λ e. not (holds e old)) new nd))
      (order_sorted ltb shorter_strict (fresh new old) (distinct_kept (λ e. not (has e.prefix new)) old od));
}

-- one list only has these writes, each in its turn

same_writing_lem : (u v : Writing) → same_writing u v ≡ true → u ≡ v
same_writing_lem (Put e) (Put f) h = ap Put (is_eq e f h)
same_writing_lem (Put e) (Drop q) h = cc
same_writing_lem (Drop p) (Put f) h = cc
same_writing_lem (Drop p) (Drop q) h = ap Drop (same_eq p q h)

writing_refl : (u : Writing) → same_writing u u ≡ true
writing_refl (Put e) = is_refl e
writing_refl (Drop p) = same_refl p

earlier_irrefl : (u : Writing) → earlier u u ≡ false
earlier_irrefl (Put e) = order_irrefl is_longer longer_strict e.prefix
earlier_irrefl (Drop p) = order_irrefl ltb shorter_strict p

earlier_trans : (u v w : Writing) → earlier u v ≡ true → earlier v w ≡ true → earlier u w ≡ true
earlier_trans (Put e) (Put f) (Put g) h k = order_trans is_longer longer_strict e.prefix f.prefix g.prefix h k
earlier_trans (Put e) v (Drop r) h k = refl
earlier_trans (Put e) (Drop q) (Put g) h k = cc
earlier_trans (Drop p) (Put f) w h k = cc
earlier_trans (Drop p) (Drop q) (Put g) h k = k
earlier_trans (Drop p) (Drop q) (Drop r) h k = order_trans ltb shorter_strict p q r h k

listed : Listed same_writing earlier among heads in_turn
unfolding among heads in_turn
listed = record {
  is_eq = same_writing_lem;
  is_refl = writing_refl;
  irrefl = earlier_irrefl;
  trans = earlier_trans;
  among_none = λ u. refl;
  among_more = λ u v vs. refl;
  heads_more = λ u v vs. refl;
  ordered_more = λ u us. refl;
}

same_writes : (old new : Entries) (us vs : List Writing) → Prescribed old new us → Prescribed old new vs → (u : Writing) → among u us ≡ among u vs
same_writes old new us vs h k (Put e) = h.put e ∙ sym (k.put e)
same_writes old new us vs h k (Drop p) = h.dropped p ∙ sym (k.dropped p)

pub plan_is : PlanIs
plan_is old new od nd =
    let p = plan_prescribed old new od nd in (
      p,
      λ us h. unique listed us (plan old new) h.order p.order (same_writes old new us (plan old new) h p),
    )

pub by_difference : ByDifference
by_difference old new old' new' od nd od' nd' h k =
    let p = plan_prescribed old' new' od' nd' in
    sym ((plan_is old new od nd).1 (plan old' new') (record { put = λ e. p.put e ∙ sym (h e); dropped = λ q. p.dropped q ∙ sym (k q); order = p.order }))
