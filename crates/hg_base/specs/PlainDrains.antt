-- The bytes of a page that is drained: those of its rows alone, which lead to nothing.
use Rattle.std.specs.Prelude.{◌≡◌, ℕ, ◌+◌, ◌-◌, ◌*◌, ◌/◌, ◌≤◌, zero, suc, List, [], ◌∷◌, ◌++◌, length, take, replicate, flat_map, sum_by, Option, None, Some}
use Rattle.std.specs.Int.{w16, to_le_bytes}
use Rattle.std.specs.List.{AllByRecursion}
use Rattle.std.proofs.Common.{sym, ◌∙◌, ap, subst, refl, arith, inr, append_assoc, append-nil, length-append}
use Rattle.std.proofs.lemmas.Option.{none-some}
use Rattle.std.proofs.lemmas.List.Sums.{sum_by-cons}
use Rattle.hg_base.specs.Content.{Object, row_object, directory, object_size, page_end, payloads_of}
use Rattle.hg_base.specs.HeapFacts.{IsPayload}
use Rattle.hg_base.specs.HeapPage.{object_bytes}
use Rattle.hg_base.specs.HeapStates.{HoldsPayloads}
use Rattle.hg_base.specs.PlainEntries.{payload_at}

-- no object has an address
abbrev pub nowhere : ℕ → ℕ
nowhere n = 0

abbrev pub row_bytes : List ℕ → List ℕ
row_bytes payload = object_bytes nowhere (row_object payload None)

-- the rows among some objects, each of which leads to nothing
abbrev pub rows_alone : List Object → List Object
rows_alone [] = []
rows_alone (row_object payload link ∷ objects) = row_object payload None ∷ rows_alone objects
rows_alone (directory links ∷ objects) = rows_alone objects

abbrev pub rows_bytes : List Object → List ℕ
rows_bytes objects = flat_map (object_bytes nowhere) (rows_alone objects)

-- a page of these bytes from offset 64 on
abbrev pub page_bytes : List ℕ → List ℕ
page_bytes rows = 72 ∷ 0 ∷ to_le_bytes w16 (64 + length rows) ++ replicate 60 0 ++ rows ++ replicate (4032 - length rows) 0

alone-payloads : (objects : List Object) → payloads_of (rows_alone objects) ≡ payloads_of objects
alone-payloads [] = refl
alone-payloads (row_object payload link ∷ objects) = ap (λ l. payload ∷ l) (alone-payloads objects)
alone-payloads (directory links ∷ objects) = alone-payloads objects

alone-size : (objects : List Object) → sum_by object_size (rows_alone objects) ≤ sum_by object_size objects
alone-size [] = omega arith
alone-size (row_object payload link ∷ objects) =
    let s : sum_by object_size (rows_alone objects) ≤ sum_by object_size objects = alone-size objects in
    let e : object_size (row_object payload None) ≡ object_size (row_object payload link) = refl in
    omega (arith, sum_by-cons object_size (row_object payload None) (rows_alone objects), sum_by-cons object_size (row_object payload link) objects)
alone-size (directory links ∷ objects) =
    let s : sum_by object_size (rows_alone objects) ≤ sum_by object_size objects = alone-size objects in
    omega (arith, sum_by-cons object_size (directory links) objects)

length-zeros : (n : ℕ) → length (replicate {A = ℕ} n 0) ≡ n
length-zeros zero = refl
length-zeros (suc n) = ap (λ k. suc k) (length-zeros n)

pub take-zeros : (n k : ℕ) → k ≤ n → take k (replicate {A = ℕ} n 0) ≡ replicate k 0
take-zeros n zero h = refl
take-zeros zero (suc k) h = absurd (omega arith)
take-zeros (suc n) (suc k) h = ap (λ l. 0 ∷ l) (take-zeros n k (omega arith))

-- the parts of a row, and of a page, put one behind the other
pub row-joined : (old head payload zeros : List ℕ) → ((((old ++ head) ++ 1 ∷ []) ++ replicate 13 0) ++ payload) ++ zeros ≡ old ++ (head ++ (1 ∷ replicate 13 0 ++ (payload ++ zeros)))
row-joined old head payload zeros =
    append_assoc (((old ++ head) ++ 1 ∷ []) ++ replicate 13 0) payload zeros
    ∙ append_assoc ((old ++ head) ++ 1 ∷ []) (replicate 13 0) (payload ++ zeros)
    ∙ append_assoc (old ++ head) (1 ∷ []) (replicate 13 0 ++ (payload ++ zeros))
    ∙ append_assoc old head (1 ∷ replicate 13 0 ++ (payload ++ zeros))

pub page-joined : (head rows zeros : List ℕ) → (((72 ∷ 0 ∷ head) ++ replicate 60 0) ++ rows) ++ zeros ≡ 72 ∷ 0 ∷ head ++ (replicate 60 0 ++ (rows ++ zeros))
page-joined head rows zeros =
    append_assoc ((72 ∷ 0 ∷ head) ++ replicate 60 0) rows zeros
    ∙ append_assoc (72 ∷ 0 ∷ head) (replicate 60 0) (rows ++ zeros)

-- a row's bytes are as many as its size says
pub row-long : (payload : List ℕ) → length (row_bytes payload) ≡ object_size (row_object payload None)
row-long payload =
    let size : ℕ = 16 * ((length payload + 15) / 16) in
    let zeros : List ℕ = replicate (16 + size - 16 - length payload) 0 in
    let a : length (row_bytes payload) ≡ length (take 16 (row_bytes payload)) + length (payload ++ zeros) = length-append (take 16 (row_bytes payload)) (payload ++ zeros) in
    let b : length (take 16 (row_bytes payload)) ≡ 16 = refl in
    let d : length (payload ++ zeros) ≡ length payload + length zeros = length-append payload zeros in
    let e : length zeros ≡ 16 + size - 16 - length payload = length-zeros (16 + size - 16 - length payload) in
    let f : length payload ≤ size = omega arith in
    a ∙ ap (λ n. n + length (payload ++ zeros)) b ∙ ap (λ n. 16 + n) (d ∙ ap (λ n. length payload + n) e) ∙ (let g : 16 + (length payload + (16 + size - 16 - length payload)) ≡ 16 + size = omega arith in g)

alone-long : (objects : List Object) → length (rows_bytes objects) ≡ sum_by object_size (rows_alone objects)
alone-long [] = refl
alone-long (row_object payload link ∷ objects) =
    length-append (row_bytes payload) (rows_bytes objects)
    ∙ ap (λ n. n + length (rows_bytes objects)) (row-long payload)
    ∙ ap (λ n. object_size (row_object payload None) + n) (alone-long objects)
    ∙ sym (sum_by-cons object_size (row_object payload None) (rows_alone objects))
alone-long (directory links ∷ objects) = alone-long objects

pub rows-few : (objects : List Object) → page_end objects ≤ 4096 → length (rows_bytes objects) ≤ 4032
rows-few objects h = let a = alone-long objects in let b = alone-size objects in omega arith

row-after : (objects : List Object) (i : ℕ) (payload : List ℕ) → payload_at objects i ≡ Some payload → rows_bytes (take (suc i) objects) ≡ rows_bytes (take i objects) ++ row_bytes payload
row-after [] i payload e = absurd (none-some payload e)
row-after (row_object p l ∷ objects) zero payload e =
    let same : p ≡ payload = (let s : ◌≡◌ {A = Option (List ℕ)} (Some p) (Some payload) = e in cc) in
    append-nil (row_bytes p) ∙ ap row_bytes same
row-after (directory ls ∷ objects) zero payload e = absurd (none-some payload e)
row-after (row_object p l ∷ objects) (suc i) payload e =
    ap (λ r. row_bytes p ++ r) (row-after objects i payload e) ∙ sym (append_assoc (row_bytes p) (rows_bytes (take i objects)) (row_bytes payload))
row-after (directory ls ∷ objects) (suc i) payload e = row-after objects i payload e

none-after : (objects : List Object) (i : ℕ) → payload_at objects i ≡ None → rows_bytes (take (suc i) objects) ≡ rows_bytes (take i objects)
none-after [] zero e = refl
none-after [] (suc i) e = refl
none-after (row_object p l ∷ objects) zero e = absurd (none-some p (sym e))
none-after (directory ls ∷ objects) zero e = refl
none-after (row_object p l ∷ objects) (suc i) e = ap (λ r. row_bytes p ++ r) (none-after objects i e)
none-after (directory ls ∷ objects) (suc i) e = none-after objects i e

-- one object more, a row and none
pub row-next : (objects : List Object) (i : ℕ) (payload : List ℕ) → payload_at objects i ≡ Some payload → rows_bytes (take (i + 1) objects) ≡ rows_bytes (take i objects) ++ row_bytes payload
row-next objects i payload e = ap (λ n. rows_bytes (take n objects)) (let n : i + 1 ≡ suc i = omega arith in n) ∙ row-after objects i payload e

pub none-next : (objects : List Object) (i : ℕ) → payload_at objects i ≡ None → rows_bytes (take (i + 1) objects) ≡ rows_bytes (take i objects)
none-next objects i e = ap (λ n. rows_bytes (take n objects)) (let n : i + 1 ≡ suc i = omega arith in n) ∙ none-after objects i e

-- there is room for the next row
pub row-room : (objects : List Object) (i : ℕ) (payload : List ℕ) → payload_at objects i ≡ Some payload → length (rows_bytes (take i objects)) + object_size (row_object payload None) ≤ sum_by object_size objects
row-room [] i payload e = absurd (none-some payload e)
row-room (row_object p l ∷ objects) zero payload e =
    let same : p ≡ payload = (let s : ◌≡◌ {A = Option (List ℕ)} (Some p) (Some payload) = e in cc) in
    let size : object_size (row_object payload None) ≡ object_size (row_object p l) = ap (λ q. object_size (row_object q None)) (sym same) in
    omega (arith, sum_by-cons object_size (row_object p l) objects)
row-room (directory ls ∷ objects) zero payload e = absurd (none-some payload e)
row-room (row_object p l ∷ objects) (suc i) payload e =
    let r : length (rows_bytes (take i objects)) + object_size (row_object payload None) ≤ sum_by object_size objects = row-room objects i payload e in
    let s : object_size (row_object p None) ≡ object_size (row_object p l) = refl in
    omega (arith, length-append (row_bytes p) (rows_bytes (take i objects)), row-long p, sum_by-cons object_size (row_object p l) objects)
row-room (directory ls ∷ objects) (suc i) payload e =
    let r : length (rows_bytes (take i objects)) + object_size (row_object payload None) ≤ sum_by object_size objects = row-room objects i payload e in
    omega (arith, sum_by-cons object_size (directory ls) objects)

-- such a page holds the payloads
pub page-holds : (objects : List Object) → page_end objects ≤ 4096 → AllByRecursion IsPayload (payloads_of objects)
    → HoldsPayloads (Some (payloads_of objects)) (page_bytes (rows_bytes objects))
page-holds objects h each =
    let rows : List ℕ = rows_bytes objects in
    let end : 64 + length rows ≡ page_end (rows_alone objects) = ap (λ n. 64 + n) (alone-long objects) in
    let small = rows-few objects h in
    record {
      address = nowhere;
      roots = [];
      objects = rows_alone objects;
      frame = 0;
      is = record {
        size = omega (arith, length-append rows (replicate (4032 - length rows) 0), length-zeros (4032 - length rows));
        kind = refl;
        end = ap (to_le_bytes w16) end;
        stood_in = refl;
        first = refl;
        fits = let s = alone-size objects in omega arith;
        placed = ap (λ n. rows ++ replicate n 0) (let n : 4032 - length rows ≡ 4096 - page_end (rows_alone objects) = omega arith in n);
      };
      four = inr refl;
      each = subst (AllByRecursion IsPayload) (sym (alone-payloads objects)) each;
      told = alone-payloads objects;
    }
