-- What comes near and is not meant: joining neighbours, and another choice. Assumes nothing.
use Rattle.std.specs.Prelude.{◌≡◌, ℕ, ◌<◌, Bool, true, false, if◌then◌else◌, not, ◌&&◌, List, [], ◌∷◌, ◌++◌, length}
use Rattle.prefix.specs.Bits.{Bits}
use Rattle.table.specs.Examples.{line}
use Rattle.table.specs.Tables.{Entry, Entries, SendSame, sound, holds, put, without}
use Rattle.fewest.specs.Trees.{Tree, Leaf, Fork, tree_of}
use Rattle.fewest.specs.Needs.{fewest, both, meet}
use Rattle.fewest.specs.Prescribed.{forked, single, best, short}

-- JOINING NEIGHBOURS AGAIN AND AGAIN does not reach the fewest lines: it never writes a longer line under a shorter one of another next hop

-- the two neighbours below a prefix: the lower,
abbrev pub lower : Bits → Bits
lower p = p ++ (false ∷ [])

-- and the upper
abbrev pub upper : Bits → Bits
upper p = p ++ (true ∷ [])

-- whether a line can come in place of its two neighbours below: both are there, with its next hop
abbrev pub joinable : Entry → Entries → Bool
joinable e t = holds (line (lower e.prefix) e.hop) t && holds (line (upper e.prefix) e.hop) t

-- it comes in place of them, where it can
abbrev pub join : Entry → Entries → Entries
join e t = (if joinable e t then put e (without (lower e.prefix) (without (upper e.prefix) t)) else t)

-- one after the other
unfoldable pub join_all : List Entry → Entries → Entries
join_all [] t = t
join_all (e ∷ es) t = join_all es (join e t)

-- 000 and 001 to 1, 01 to 2, 1 to 1: the first two can be joined, and then no more
abbrev pub quartered : Entries
quartered = line (false ∷ false ∷ false ∷ []) 1 ∷ line (false ∷ false ∷ true ∷ []) 1 ∷ line (false ∷ true ∷ []) 2 ∷ line (true ∷ []) 1 ∷ []

-- and what that gives
abbrev pub halved : Entries
halved = line (false ∷ false ∷ []) 1 ∷ line (false ∷ true ∷ []) 2 ∷ line (true ∷ []) 1 ∷ []

-- neighbours of this table joined in whatever order and however often: it stays longer than the shortest table that sends the same
abbrev pub JoiningFallsShort : Type 0
JoiningFallsShort =
    (sound 3 quartered ≡ true) ×
    (join (line (false ∷ false ∷ []) 1) quartered ≡ halved) ×
    SendSame 3 quartered halved ×
    ((es : List Entry) → fewest 3 quartered < length (join_all es quartered))

-- A LINE AS SOON AS IT COSTS NOTHING: the usual choice is to write one wherever the halves meet and h does not reach the lowest need of both.
-- It gives a table with as few lines, and another one
unfoldable pub eager : Tree → ℕ → Entries
eager (Leaf x) h = single x h
eager (Fork l r) h =
    (if meet l r && not (both l r h)
    then line [] (best l r) ∷ forked (eager l (best l r)) (eager r (best l r))
    else forked (eager l h) (eager r h))

-- 00 to 1, 01 dropped, 1 to 1
abbrev pub partly : Entries
partly = line (false ∷ false ∷ []) 1 ∷ line (false ∷ true ∷ []) 0 ∷ line (true ∷ []) 1 ∷ []

-- both tables for it have two lines and send the same
abbrev pub EagerIsAnother : Type 0
EagerIsAnother =
    (sound 2 partly ≡ true) ×
    (short 2 partly ≡ line (false ∷ false ∷ []) 1 ∷ line (true ∷ []) 1 ∷ []) ×
    (eager (tree_of 2 partly) 0 ≡ line [] 1 ∷ line (false ∷ true ∷ []) 0 ∷ []) ×
    SendSame 2 partly (eager (tree_of 2 partly) 0) ×
    (length (eager (tree_of 2 partly) 0) ≡ fewest 2 partly)
