-- The objects of a heap by their addresses, and what a change of one of them is. Our own rule.
use Rattle.std.specs.Prelude.{ℕ, ◌+◌, ◌-◌, ◌*◌, ◌==◌, zero, suc, List, [], ◌∷◌, ◌++◌, length, map, slice_get, slice_set, nat_lt, Option, None, Some, option_map, option_and_then, if◌then◌else◌}
use Rattle.hg_base.specs.Content.{Object, row_object, directory, Objects, placed, page_end, room_on, addresses_in, address_of}
use Rattle.hg_base.specs.HeapPage.{link_word}

-- where a number stands in a list, counted from 0: the first place where it does
abbrev pub place_in : List ℕ → ℕ → Option ℕ
place_in [] x = None
place_in (y ∷ ys) x = if y == x then Some 0 else option_map (λ n. n + 1) (place_in ys x)

-- the object that an address names, by its place in order of placing
abbrev pub named_by : Objects → List ℕ → ℕ → Option ℕ
named_by o frames a = place_in (addresses_in o.layout frames) a

-- the object at an address
abbrev pub object_at : Objects → List ℕ → ℕ → Option Object
object_at o frames a = option_and_then (λ n. slice_get (placed o) n) (named_by o frames a)

-- the link that a word stands for: 0 is nothing
abbrev pub link_of : Objects → List ℕ → ℕ → Option ℕ
link_of o frames word = if word == 0 then None else named_by o frames word

-- a row's payload and its link; a directory's links
abbrev pub payload_of : Object → Option (List ℕ)
payload_of (row_object payload link) = Some payload
payload_of (directory links) = None

abbrev pub row_link : Object → Option (Option ℕ)
row_link (row_object payload link) = Some link
row_link (directory links) = None

abbrev pub links_of : Object → Option (List (Option ℕ))
links_of (row_object payload link) = None
links_of (directory links) = Some links

-- links as words
abbrev pub words_of : Objects → List ℕ → List (Option ℕ) → List ℕ
words_of o frames links = map (link_word (address_of o frames)) links

-- an object with another payload; with another link at one place of a directory
abbrev pub with_payload : List ℕ → Object → Object
with_payload bytes (row_object payload link) = row_object bytes link
with_payload bytes (directory links) = directory links

abbrev pub with_link : ℕ → Option ℕ → Object → Object
with_link k to (row_object payload link) = row_object payload link
with_link k to (directory links) = directory (slice_set links k to)

-- the n-th object of a page changed, and the n-th of all pages
abbrev pub changed_on : (Object → Object) → ℕ → List Object → List Object
changed_on f n [] = []
changed_on f zero (x ∷ xs) = f x ∷ xs
changed_on f (suc n) (x ∷ xs) = x ∷ changed_on f n xs

abbrev pub changed_in : (Object → Object) → ℕ → List (List Object) → List (List Object)
changed_in f n [] = []
changed_in f n (page ∷ pages) = if nat_lt n (length page) then changed_on f n page ∷ pages else page ∷ changed_in f (n - length page) pages

-- the objects with the one at an address changed
abbrev pub changed_by : (Object → Object) → Option ℕ → Objects → Objects
changed_by f None o = o
changed_by f (Some n) o = record o { layout = changed_in f n o.layout }

abbrev pub changed_at : (Object → Object) → List ℕ → ℕ → Objects → Objects
changed_at f frames a o = changed_by f (named_by o frames a) o

-- one object more on the last page
abbrev pub with_last : List (List Object) → Object → List (List Object)
with_last [] x = []
with_last (page ∷ []) x = (page ++ x ∷ []) ∷ []
with_last (page ∷ next ∷ pages) x = page ∷ with_last (next ∷ pages) x

abbrev pub with_object : Objects → Object → Objects
with_object o x = record o { layout = with_last o.layout x }

-- the bytes that are free on the last page
abbrev pub room_left : List (List Object) → ℕ
room_left [] = 0
room_left (page ∷ []) = room_on page
room_left (page ∷ next ∷ pages) = room_left (next ∷ pages)

-- the address of the next object that is placed: behind the last page's objects
abbrev pub next_address : List (List Object) → List ℕ → ℕ
next_address (page ∷ []) (frame ∷ frames) = frame * 4096 + page_end page
next_address (page ∷ next ∷ pages) (frame ∷ frames) = next_address (next ∷ pages) frames
next_address layout frames = 0

-- a directory of so many links, all of them to nothing
abbrev pub no_links : ℕ → List (Option ℕ)
no_links zero = []
no_links (suc n) = None ∷ no_links n

-- a heap of one page and no object
abbrev pub no_objects : Objects
no_objects = record { layout = [] ∷ []; roots = None ∷ None ∷ None ∷ None ∷ [] }
