-- Lines put under bits, and the lines of two halves put together. Assumes nothing.
use Rattle.std.proofs.Common.{◌≡◌, ℕ, suc, ◌+◌, Bool, true, false, cond, not, ◌&&◌, eqb, leb, [], ◌∷◌, ◌++◌, length, None, sym, refl, ap, ◌∙◌, ap₂, append_assoc, append-nil, arith, length-append}
use lib.Dec.{leb-suc-suc}
use Rattle.std.proofs.lemmas.Bool.{and_parts, and_from, cond_both, eqb-true, le-leb}
use Rattle.prefix.specs.Bits.{Bits, same_bit, begins, before}
use Rattle.table.specs.Examples.{line}
use Rattle.table.specs.Tables.{Entry, Entries, find, every, leads, rising}
use Rattle.table.proofs.Rising.{rising_parts, rising_from}
use Rattle.fewest.specs.Prescribed.{beneath, forked, single}
use Rattle.fewest.proofs.Split.{hop_or, strip, under, hop_split}

-- under no bits, and under some and then some more
pub beneath_none : (t : Entries) → beneath [] t ≡ t
unfolding beneath
beneath_none [] = refl
beneath_none (e ∷ es) = ap (λ (r : Entries). e ∷ r) (beneath_none es)

pub beneath_beneath : (p q : Bits) (t : Entries) → beneath p (beneath q t) ≡ beneath (p ++ q) t
unfolding beneath
beneath_beneath p q [] = refl
beneath_beneath p q (e ∷ es) = ap₂ (λ (x : Bits) (r : Entries). line x e.hop ∷ r) (sym (append_assoc p q e.prefix)) (beneath_beneath p q es)

pub beneath_append : (p : Bits) (s t : Entries) → beneath p (s ++ t) ≡ beneath p s ++ beneath p t
unfolding beneath
beneath_append p [] t = refl
beneath_append p (e ∷ es) t = ap (λ (r : Entries). line (p ++ e.prefix) e.hop ∷ r) (beneath_append p es t)

pub beneath_empty : (p : Bits) → beneath p [] ≡ []
unfolding beneath
beneath_empty p = refl

pub beneath_line : (p q : Bits) (x : ℕ) (t : Entries) → beneath p (line q x ∷ t) ≡ line (p ++ q) x ∷ beneath p t
unfolding beneath
beneath_line p q x t = refl

pub forked_low : (t : Entries) → forked t [] ≡ beneath (false ∷ []) t
unfolding beneath
forked_low t = append-nil (beneath (false ∷ []) t)

pub forked_high : (t : Entries) → forked [] t ≡ beneath (true ∷ []) t
unfolding beneath
forked_high t = refl

-- HOW MANY

length_beneath : (p : Bits) (t : Entries) → length (beneath p t) ≡ length t
unfolding beneath
length_beneath p [] = refl
length_beneath p (e ∷ es) = ap suc (length_beneath p es)

pub length_forked : (s t : Entries) → length (forked s t) ≡ length s + length t
length_forked s t = simp (length-append, length_beneath)

pub length_single : (x h : ℕ) → length (single x h) ≡ cond (eqb x h) 0 1
length_single x h = step (eqb x h)
  where
    step : (b : Bool) → length (cond b [] (line [] x ∷ [])) ≡ cond b 0 1
    step true = refl
    step false = refl

-- WHERE THEY SEND

under_append : (b : Bool) (s t : Entries) → under b (s ++ t) ≡ under b s ++ under b t
unfolding under
under_append b [] t = refl
under_append b (e ∷ es) t = step e.prefix e.hop (under_append b es t)
  where
    step : (p : Bits) (x : ℕ) → under b (es ++ t) ≡ under b es ++ under b t → strip b p x (under b (es ++ t)) ≡ strip b p x (under b es) ++ under b t
    step [] x e = e
    step (c ∷ cs) x e = pick (same_bit c b)
      where
        pick : (q : Bool) → cond q (line cs x ∷ under b (es ++ t)) (under b (es ++ t)) ≡ cond q (line cs x ∷ under b es) (under b es) ++ under b t
        pick true = ap (λ (r : Entries). line cs x ∷ r) e
        pick false = e

under_own : (b : Bool) (t : Entries) → under b (beneath (b ∷ []) t) ≡ t
unfolding under beneath
under_own b [] = refl
under_own true (e ∷ es) = ap (λ (r : Entries). e ∷ r) (under_own true es)
under_own false (e ∷ es) = ap (λ (r : Entries). e ∷ r) (under_own false es)

under_other : (b : Bool) (t : Entries) → under b (beneath (not b ∷ []) t) ≡ []
unfolding under beneath
under_other b [] = refl
under_other true (e ∷ es) = under_other true es
under_other false (e ∷ es) = under_other false es

-- the lines of one half
abbrev pub half : Entries → Entries → Bool → Entries
half s t false = s
half s t true = t

under_forked : (s t : Entries) (b : Bool) → under b (forked s t) ≡ half s t b
under_forked s t false =
    under_append false (beneath (false ∷ []) s) (beneath (true ∷ []) t) ∙ ap₂ (λ (x y : Entries). x ++ y) (under_own false s) (under_other false t) ∙ append-nil s
under_forked s t true =
    under_append true (beneath (false ∷ []) s) (beneath (true ∷ []) t) ∙ ap₂ (λ (x y : Entries). x ++ y) (under_other true s) (under_own true t)

beneath_root : (b : Bool) (s t : Entries) → find (beneath (b ∷ []) s ++ t) [] ≡ find t []
unfolding find begins beneath
beneath_root b [] t = refl
beneath_root b (e ∷ es) t = beneath_root b es t

forked_root : (s t : Entries) → find (forked s t) [] ≡ None
unfolding find
forked_root s t = beneath_root false s (beneath (true ∷ []) t) ∙ ap (λ (u : Entries). find u []) (sym (append-nil (beneath (true ∷ []) t))) ∙ beneath_root true t []

-- two halves, with nothing above them,
pub forked_sends : (h : ℕ) (s t : Entries) (b : Bool) (a : Bits) → hop_or h (find (forked s t) (b ∷ a)) ≡ hop_or h (find (half s t b) a)
forked_sends h s t b a = hop_split h (forked s t) b a ∙ rw (forked_root s t, under_forked s t b)

-- and with a line for all addresses
pub line_sends : (h k : ℕ) (s t : Entries) (b : Bool) (a : Bits) → hop_or h (find (line [] k ∷ forked s t) (b ∷ a)) ≡ hop_or k (find (half s t b) a)
line_sends h k s t b a = hop_split h (line [] k ∷ forked s t) b a ∙ ap₂ (λ (x : ℕ) (u : Entries). hop_or x (find u a)) top (unfold under in under_forked s t b)
  where
    top : hop_or h (find (line [] k ∷ forked s t) []) ≡ k
    top = unfold find begins in rw (forked_root s t)

pub single_sends : (x h : ℕ) (a : Bits) → hop_or h (find (single x h) a) ≡ x
unfolding find begins
single_sends x h a = step (eqb x h) refl
  where
    step : (b : Bool) → eqb x h ≡ b → hop_or h (find (cond b [] (line [] x ∷ [])) a) ≡ x
    step true e = sym (eqb-true x h e)
    step false e = refl

-- TESTS OF EVERY LINE

pub every_append : (f : Entry → Bool) (s t : Entries) → every f s ≡ true → every f t ≡ true → every f (s ++ t) ≡ true
unfolding every
every_append f [] t a b = b
every_append f (e ∷ es) t a b = let two = and_parts (f e) (every f es) a in and_from _ _ two.0 (every_append f es t two.1 b)

pub every_weaker : (f g : Entry → Bool) → ((e : Entry) → f e ≡ true → g e ≡ true) → (t : Entries) → every f t ≡ true → every g t ≡ true
unfolding every
every_weaker f g w [] a = refl
every_weaker f g w (e ∷ es) a = let two = and_parts (f e) (every f es) a in and_from _ _ (w e two.0) (every_weaker f g w es two.1)

-- no longer than w bits, and with a next hop that passes a test
abbrev pub line_fits : ℕ → (ℕ → Bool) → Entry → Bool
line_fits w f e = leb (length e.prefix) w && f e.hop

fits_under : (w : ℕ) (f : ℕ → Bool) (b : Bool) (t : Entries) → every (line_fits w f) t ≡ true → every (line_fits (suc w) f) (beneath (b ∷ []) t) ≡ true
unfolding every beneath
fits_under w f b [] a = refl
fits_under w f b (e ∷ es) a =
    let two = and_parts (line_fits w f e) (every (line_fits w f) es) a in
    let own = and_parts (leb (length e.prefix) w) (f e.hop) two.0 in
    and_from _ _ (and_from _ _ (leb-suc-suc (length e.prefix) w ∙ own.0) own.1) (fits_under w f b es two.1)

pub fits_forked : (w : ℕ) (f : ℕ → Bool) (s t : Entries) → every (line_fits w f) s ≡ true → every (line_fits w f) t ≡ true → every (line_fits (suc w) f) (forked s t) ≡ true
fits_forked w f s t a b = every_append (line_fits (suc w) f) (beneath (false ∷ []) s) (beneath (true ∷ []) t) (fits_under w f false s a) (fits_under w f true t b)

pub fits_line : (w : ℕ) (f : ℕ → Bool) (k : ℕ) (t : Entries) → f k ≡ true → every (line_fits w f) t ≡ true → every (line_fits w f) (line [] k ∷ t) ≡ true
unfolding every
fits_line w f k t a b = and_from _ _ (and_from _ _ (le-leb 0 w (omega arith)) a) b

pub fits_single : (w : ℕ) (f : ℕ → Bool) (x h : ℕ) → f x ≡ true → every (line_fits w f) (single x h) ≡ true
unfolding every
fits_single w f x h a = cond_both (eqb x h) [] (line [] x ∷ []) (λ (u : Entries). every (line_fits w f) u ≡ true) (λ _. refl) (λ _. fits_line w f x [] a refl)

-- THEIR ORDER

leads_under : (b : Bool) (e : Entry) (t : Entries) → leads e t ≡ true → leads (line (b ∷ e.prefix) e.hop) (beneath (b ∷ []) t) ≡ true
unfolding every beneath before
leads_under b e [] a = refl
leads_under true e (f ∷ fs) a = let two = and_parts (before e.prefix f.prefix) (leads e fs) a in and_from _ _ two.0 (leads_under true e fs two.1)
leads_under false e (f ∷ fs) a = let two = and_parts (before e.prefix f.prefix) (leads e fs) a in and_from _ _ two.0 (leads_under false e fs two.1)

leads_across : (e : Entry) (p : Bits) (t : Entries) → leads (line (false ∷ p) e.hop) (beneath (true ∷ []) t) ≡ true
unfolding every beneath before
leads_across e p [] = refl
leads_across e p (f ∷ fs) = and_from _ _ refl (leads_across e p fs)

leads_append : (e : Entry) (s t : Entries) → leads e s ≡ true → leads e t ≡ true → leads e (s ++ t) ≡ true
leads_append e s t a b = every_append (λ f. before e.prefix f.prefix) s t a b

rising_under : (b : Bool) (t : Entries) → rising t ≡ true → rising (beneath (b ∷ []) t) ≡ true
unfolding rising beneath
rising_under b [] a = refl
rising_under b (e ∷ es) a = let two = rising_parts e es a in rising_from (line (b ∷ e.prefix) e.hop) (beneath (b ∷ []) es) (leads_under b e es two.0) (rising_under b es two.1)

pub rising_forked : (s t : Entries) → rising s ≡ true → rising t ≡ true → rising (forked s t) ≡ true
unfolding beneath
rising_forked [] t a b = rising_under true t b
rising_forked (e ∷ es) t a b =
    let two = rising_parts e es a in
    rising_from (line (false ∷ e.prefix) e.hop) (beneath (false ∷ []) es ++ beneath (true ∷ []) t) (leads_append (line (false ∷ e.prefix) e.hop) (beneath (false ∷ []) es) (beneath (true ∷ []) t) (leads_under false e es two.0) (leads_across e e.prefix t))
    (rising_forked es t two.1 b)

leads_root : (k : ℕ) (b : Bool) (t : Entries) → leads (line [] k) (beneath (b ∷ []) t) ≡ true
unfolding every beneath before
leads_root k b [] = refl
leads_root k b (f ∷ fs) = and_from _ _ refl (leads_root k b fs)

pub rising_line : (k : ℕ) (s t : Entries) → rising (forked s t) ≡ true → rising (line [] k ∷ forked s t) ≡ true
rising_line k s t a =
    rising_from (line [] k) (forked s t) (leads_append (line [] k) (beneath (false ∷ []) s) (beneath (true ∷ []) t) (leads_root k false s) (leads_root k true t)) a

pub rising_single : (x h : ℕ) → rising (single x h) ≡ true
unfolding rising every
rising_single x h = cond_both (eqb x h) [] (line [] x ∷ []) (λ (u : Entries). rising u ≡ true) (λ _. refl) (λ _. refl)
