-- The queued requests in their eight places, oldest first (document 01, "Numbers given back", number 6).
use Rattle.std.specs.Prelude.{ℕ, zero, suc, ◌+◌, ◌-◌, ◌%◌, cond, List, [], ◌∷◌, leb, ltb, get_or, take, set, replicate}
use Rattle.config.specs.declared.Geometry.{Geometry}
use Rattle.address.specs.declared.Cell.{Cell}
use Rattle.address.specs.Map.{cell_of}
use Rattle.queue.specs.declared.Kind.{Kind}
use Rattle.queue.specs.declared.Kind.TheVariants.{Read, Write}
use Rattle.queue.specs.declared.Request.{Request}
use Rattle.queue.specs.declared.Queue.{Queue}

-- a request of a kind with its number, address and halfword
abbrev pub request_for : Kind → ℕ → ℕ → ℕ → Request
request_for kind number address halfword = record { number = number; address = address; halfword = halfword; kind = kind }

-- the cell that a request is for
abbrev pub cell_for : Geometry → Request → Cell
cell_for g r = cell_of g r.address

-- what a place holds that no request uses
abbrev pub no_request : Request
no_request = request_for Read 0 0 0

-- Requests in numbers: the halfword, below 65,536, and the kind in one, a write's with 65,536 added, and both read off it again.
abbrev pub data_of : Kind → ℕ → ℕ
data_of Read halfword = halfword
data_of Write halfword = 65536 + halfword

unfoldable pub kind_in : ℕ → Kind
kind_in word = cond (leb 65536 word) Write Read

-- the request at a place of the array of 24 numbers: eight request numbers, eight addresses, eight halfwords with their kinds
unfoldable pub request_in : List ℕ → ℕ → Request
request_in l i = request_for (kind_in (get_or l (16 + i) 0)) (get_or l i 0) (get_or l (8 + i) 0) (get_or l (16 + i) 0 % 65536)

-- all eight
abbrev pub requests_in : List ℕ → List Request
requests_in l =
    request_in l 0 ∷ request_in l 1 ∷ request_in l 2 ∷ request_in l 3 ∷ request_in l 4 ∷ request_in l 5 ∷ request_in l 6 ∷ request_in l 7 ∷ []

-- the request at a place; the blank one where there is no such place
unfoldable pub request_at : List ℕ → ℕ → Request
request_at l i = cond (ltb i 8) (request_in l i) no_request

-- a queue of its parts
abbrev pub queue_of : List ℕ → ℕ → Queue
queue_of places count = record { places = places; count = count }

-- the queued requests, oldest first, and how many there are: the count, 8 at most, since a record may hold more
abbrev pub held_of : Queue → List Request
held_of q = take q.count (requests_in q.places)

unfoldable pub held_count : ℕ → ℕ
held_count count = cond (leb 8 count) 8 count

unfoldable pub get_of : Queue → ℕ → Request
get_of q at = request_at q.places at

unfoldable pub empty_of : Queue
empty_of = queue_of (replicate 24 0) 0

-- three numbers, and a request, put at a place
abbrev pub placed : List ℕ → ℕ → ℕ → ℕ → ℕ → List ℕ
placed l i number address word = set (set (set l i number) (8 + i) address) (16 + i) word

unfoldable pub stored_of : List ℕ → ℕ → Request → List ℕ
stored_of l i r = placed l i r.number r.address (data_of r.kind r.halfword)

-- the request becomes the youngest; a full queue stays as it was
unfoldable pub accept_of : Queue → Request → Queue
accept_of q r = cond (leb 8 q.count) q (queue_of (stored_of q.places q.count r) (q.count + 1))

-- each of the n places from i on takes what the next one has, and the last of the eight becomes blank
abbrev pub shifting : ℕ → ℕ → List ℕ → List ℕ
shifting zero i l = placed l 7 0 0 0
shifting (suc n) i l = shifting n (i + 1) (placed l i (get_or l (i + 1) 0) (get_or l (9 + i) 0) (get_or l (17 + i) 0))

-- the younger requests than the one at a place move up to it
unfoldable pub shifted_of : List ℕ → ℕ → List ℕ
shifted_of l at = shifting (7 - at) at l

-- the request at a place leaves: the younger ones move up, and the last place becomes blank (`held_remove` of proofs/Tidy.antt says it of the requests).
-- Where none is queued the count falls all the same; no slot of a sound record asks for that.
unfoldable pub remove_of : Queue → ℕ → Queue
remove_of q at = queue_of (shifted_of q.places at) (q.count - 1)
