-- A table taken apart: its lines for all addresses, its lines under 0 and those under 1. Assumes nothing.
use Rattle.std.proofs.Common.{◌≡◌, ℕ, suc, ◌+◌, Bool, true, false, cond, ◌&&◌, leb, [], ◌∷◌, length, Some, None, Option, refl, ap, ◌∙◌, arith}
use lib.Dec.{leb-suc-suc, leb-suc-zero}
use Rattle.std.proofs.lemmas.Bool.{cond-true, cond_both, le-leb}
use Rattle.prefix.specs.Bits.{Bits, same_bit, begins}
use Rattle.table.specs.declared.lookups.Match.{Match}
use Rattle.table.specs.Examples.{by}
use Rattle.table.specs.Examples.{line}
use Rattle.table.specs.Tables.{Entries, matched, longer, find, hop_of, sends}

-- the next hop found, or h
abbrev pub hop_or : ℕ → Option Match → ℕ
hop_or h None = h
hop_or h (Some m) = m.next_hop

pub sends_or : (t : Entries) (a : Bits) → sends t a ≡ hop_or 0 (find t a)
sends_or t a = out (find t a)
  where
    out : (f : Option Match) → hop_of f ≡ hop_or 0 f
    out None = refl
    out (Some m) = refl

-- a line without its first bit, if it is this one, before others
abbrev pub strip : Bool → Bits → ℕ → Entries → Entries
strip b [] x r = r
strip b (c ∷ cs) x r = cond (same_bit c b) (line cs x ∷ r) r

-- the lines under a first bit, without it
unfoldable pub under : Bool → Entries → Entries
under b [] = []
under b (e ∷ es) = strip b e.prefix e.hop (under b es)

abbrev pub root : Bits → ℕ → ℕ
root [] n = suc n
root (c ∷ cs) n = n

-- how many lines there are for all addresses
unfoldable pub roots : Entries → ℕ
roots [] = 0
roots (e ∷ es) = root e.prefix (roots es)

-- what is found below, one bit longer, before what is found at the root
abbrev pub deeper : Option Match → Option Match → Option Match
deeper r None = r
deeper r (Some m) = by (suc m.len) m.next_hop

-- nothing, or something of no bits
abbrev pub Short : Option Match → Type 0
Short None = Unit {0}
Short (Some m) = m.len ≡ 0

pub find_short : (t : Entries) → Short (find t [])
unfolding find begins
find_short [] = tt
find_short (e ∷ es) = step e.prefix e.hop (find es []) (find_short es)
  where
    step : (p : Bits) (x : ℕ) (f : Option Match) → Short f → Short (cond (begins p []) (longer (line p x) f) f)
    step [] x None s = refl
    step [] x (Some m) s = cond_both (leb m.len 0) (Some (matched (line [] x))) (Some m) Short (λ _. refl) (λ _. s)
    step (c ∷ cs) x f s = s

longer_deeper : (cs : Bits) (c : Bool) (x : ℕ) (r f : Option Match) → Short r → longer (line (c ∷ cs) x) (deeper r f) ≡ deeper r (longer (line cs x) f)
longer_deeper cs c x None None s = refl
longer_deeper cs c x (Some m) None s = cond-true (leb m.len (suc (length cs))) _ _ (le-leb m.len (suc (length cs)) (omega arith))
longer_deeper cs c x r (Some m) s =
    ap (λ (b : Bool). cond b (by (suc (length cs)) x) (by (suc m.len) m.next_hop)) (leb-suc-suc m.len (length cs)) ∙ out (leb m.len (length cs))
  where
    out : (b : Bool) → cond b (by (suc (length cs)) x) (by (suc m.len) m.next_hop) ≡ deeper r (cond b (by (length cs) x) (Some m))
    out true = refl
    out false = refl

longer_root : (x : ℕ) (r f : Option Match) → longer (line [] x) (deeper r f) ≡ deeper (longer (line [] x) r) f
longer_root x r None = refl
longer_root x r (Some m) = ap (λ (b : Bool). cond b (by 0 x) (by (suc m.len) m.next_hop)) (leb-suc-zero m.len)

pub find_split : (t : Entries) (b : Bool) (a : Bits) → find t (b ∷ a) ≡ deeper (find t []) (find (under b t) a)
unfolding find begins under
find_split [] b a = refl
find_split (e ∷ es) b a = step e.prefix e.hop (find es (b ∷ a)) (find es []) (find_short es) (find_split es b a)
  where
    step : (p : Bits) (x : ℕ) (whole top : Option Match) → Short top → whole ≡ deeper top (find (under b es) a) →
        cond (begins p (b ∷ a)) (longer (line p x) whole) whole ≡ deeper (cond (begins p []) (longer (line p x) top) top) (find (strip b p x (under b es)) a)
    step [] x whole top s e = ap (longer (line [] x)) e ∙ longer_root x top (find (under b es) a)
    step (c ∷ cs) x whole top s e = first (same_bit c b)
      where
        second : (g : Bool) → cond g (longer (line (c ∷ cs) x) whole) whole ≡ deeper top (cond g (longer (line cs x) (find (under b es) a)) (find (under b es) a))
        second true = ap (longer (line (c ∷ cs) x)) e ∙ longer_deeper cs c x top (find (under b es) a) s
        second false = e

        first : (q : Bool) → cond (q && begins cs a) (longer (line (c ∷ cs) x) whole) whole ≡ deeper top (find (cond q (line cs x ∷ under b es) (under b es)) a)
        first true = second (begins cs a)
        first false = e

-- where an address goes by a table, from its lines for all addresses and those under its first bit
pub hop_split : (h : ℕ) (t : Entries) (b : Bool) (a : Bits) → hop_or h (find t (b ∷ a)) ≡ hop_or (hop_or h (find t [])) (find (under b t) a)
hop_split h t b a = ap (hop_or h) (find_split t b a) ∙ out (find t []) (find (under b t) a)
  where
    out : (r f : Option Match) → hop_or h (deeper r f) ≡ hop_or (hop_or h r) f
    out r None = refl
    out r (Some m) = refl

-- each line is of one of the three parts
pub length_split : (t : Entries) → length t ≡ roots t + (length (under false t) + length (under true t))
unfolding roots under
length_split [] = refl
length_split (e ∷ es) = step e.prefix e.hop (length_split es)
  where
    step : (p : Bits) (x : ℕ) → length es ≡ roots es + (length (under false es) + length (under true es)) →
        suc (length es) ≡ root p (roots es) + (length (strip false p x (under false es)) + length (strip true p x (under true es)))
    step [] x e = omega arith
    step (false ∷ cs) x e = omega arith
    step (true ∷ cs) x e = omega arith

pub no_roots : (h : ℕ) (t : Entries) → roots t ≡ 0 → hop_or h (find t []) ≡ h
unfolding roots find begins
no_roots h [] e = refl
no_roots h (e ∷ es) z = step e.prefix e.hop (no_roots h es) z
  where
    step : (p : Bits) (x : ℕ) → (roots es ≡ 0 → hop_or h (find es []) ≡ h) → root p (roots es) ≡ 0 →
        hop_or h (cond (begins p []) (longer (line p x) (find es [])) (find es [])) ≡ h
    step [] x later z = absurd (omega arith)
    step (c ∷ cs) x later z = later z
