-- How the entries are found that are sought by their keys.
use Rattle.std.specs.Prelude.{◌≡◌, ℕ, ◌+◌, ◌*◌, ◌^◌, ◌<◌, ◌≤◌, Bool, true, false, List, [], ◌∷◌, ◌++◌, length, drop, Option, None, Some}
use Rattle.std.specs.Bool.{OnTrue, OnFalse}
use Rattle.std.specs.Ordering.{is_gt}
use Rattle.std.proofs.Common.{sym, ◌∙◌, ap, subst, refl, arith, inl, inr, length-append, append_assoc, append-nil}
use Rattle.std.proofs.lemmas.Bool.{false≢true}
use Rattle.hg_btree.specs.Entries.{Entry, AllBy, Before, NotBehind, Ordered}
use Rattle.hg_base.specs.Space.{Space, taken_in}
use Rattle.hg_base.specs.LineLaws.{line_few}
use Rattle.hg_base.specs.declared.File.{File}
use Rattle.hg_btree.specs.Nodes.{IsFirst, IsFirstAt}
use Rattle.hg_btree.specs.Trees.{IsTree}
use Rattle.hg_index.specs.TreeLaws.{entries_few}
use Rattle.hg_index.specs.Walks.{HasPrefix, entry_at, HasPlace, FindsNumber, IsLeastNumber, IsNotBelow, IsMet, MetOne, IsWalkAt, IsLesser}
use Rattle.hg_index.proofs.Orders.{before_not_behind, before_then, then_before, not_before_itself, key_upto, keys_one, keys_cmp, lesser_before, before_lesser, upto_lesser, between_keys, between_prefix, prefix_from}

-- ---- each entry

pub all_by_weaker : (P Q : Entry → Type 0) (es : List Entry) → ((e : Entry) → P e → Q e) → AllBy P es → AllBy Q es
all_by_weaker P Q [] f h = tt
all_by_weaker P Q (e ∷ es) f h = (f e h.0, all_by_weaker P Q es f h.1)

pub all_by_both : (P Q R : Entry → Type 0) (es : List Entry) → ((e : Entry) → P e → Q e → R e) → AllBy P es → AllBy Q es → AllBy R es
all_by_both P Q R [] f h g = tt
all_by_both P Q R (e ∷ es) f h g = (f e h.0 g.0, all_by_both P Q R es f h.1 g.1)

all_by_append : (P : Entry → Type 0) (xs ys : List Entry) → AllBy P xs → AllBy P ys → AllBy P (xs ++ ys)
all_by_append P [] ys h g = g
all_by_append P (x ∷ xs) ys h g = (h.0, all_by_append P xs ys h.1 g)

all_by_front : (P : Entry → Type 0) (xs ys : List Entry) → AllBy P (xs ++ ys) → AllBy P xs
all_by_front P [] ys h = tt
all_by_front P (x ∷ xs) ys h = (h.0, all_by_front P xs ys h.1)

all_by_back : (P : Entry → Type 0) (xs ys : List Entry) → AllBy P (xs ++ ys) → AllBy P ys
all_by_back P [] ys h = h
all_by_back P (x ∷ xs) ys h = all_by_back P xs ys h.1

pub all_by_here : (P : Entry → Type 0) (xs : List Entry) (x : Entry) (ys : List Entry) → AllBy P (xs ++ x ∷ ys) → P x
all_by_here P xs x ys h = (all_by_back P xs (x ∷ ys) h).0

ordered_back : (xs ys : List Entry) → Ordered Before (xs ++ ys) → Ordered Before ys
ordered_back [] ys h = h
ordered_back (x ∷ xs) ys h = ordered_back xs ys h.1

-- ---- what is known of each entry of a tree that is cut at the first one that is not before t

record AreCut (es : List Entry) (t x : Entry) (before after : List Entry) : Type 0 where
  all : es ≡ before ++ x ∷ after
  below : AllBy (λ e. Before e t) before
  from : NotBehind t x
  behind : AllBy (Before x) after

cut : (es : List Entry) (t : Entry) (place : ℕ) (key : List ℕ) → Ordered Before es → (f : IsFirstAt es t place key) → AreCut es t f.x f.before f.after
cut es t place key o f = record {
  all = f.all;
  below = f.below;
  from = f.from;
  behind = (ordered_back f.before (f.x ∷ f.after) (subst (Ordered Before) f.all o)).0;
}

by_parts : (P : Entry → Type 0) (es : List Entry) (t x : Entry) (before after : List Entry) → AreCut es t x before after
    → AllBy P before → P x → ((e : Entry) → Before x e → P e) → AllBy P es
by_parts P es t x before after c h p f =
    subst (AllBy P) (sym c.all) (all_by_append P before (x ∷ after) h (p, all_by_weaker (Before x) P after f c.behind))

-- ---- entries of one key

-- an entry of the key that stands before its place is below it
not_from : (key : List ℕ) (low : ℕ) (e : Entry) → Before e (entry_at key low) → e.key ≡ key → low ≤ e.place → ⊥
not_from key low e b k l = absurd (let n = before_lesser e (entry_at key low) k b in omega arith)

pub key_none : (es : List Entry) (key : List ℕ) (low : ℕ) → AllBy (λ e. Before e (entry_at key low)) es → FindsNumber (λ k. k ≡ key) low es None
key_none es key low h = all_by_weaker (λ e. Before e (entry_at key low)) (λ e. e.key ≡ key → low ≤ e.place → ⊥) es (λ e b k l. not_from key low e b k l) h

pub key_found : (es : List Entry) (key : List ℕ) (low place : ℕ) (found : List ℕ) → Ordered Before es → IsFirst es (entry_at key low) (Some place) found → found ≡ key
    → FindsNumber (λ k. k ≡ key) low es (Some place)
key_found es key low place found o f e =
    let t = entry_at key low in
    let c = cut es t place found o f in
    let k : f.x.key ≡ key = sym f.key_is ∙ e in
    let l : low ≤ f.x.place = upto_lesser t f.x (sym k) f.from in
    record {
      before = f.before;
      x = f.x;
      after = f.after;
      all = f.all;
      key = k;
      place_is = sym f.place_is;
      from = (let p = f.place_is in omega arith);
      least = by_parts (λ e. e.key ≡ key → low ≤ e.place → place ≤ e.place) es t f.x f.before f.after c
          (all_by_weaker (λ e. Before e t) (λ e. e.key ≡ key → low ≤ e.place → place ≤ e.place) f.before (λ e b q r. absurd (not_from key low e b q r)) c.below)
          (λ q r. let p = f.place_is in omega arith)
          (λ e b q r. let p = f.place_is in let n = before_lesser f.x e (k ∙ sym q) b in omega arith);
    }

pub key_other : (es : List Entry) (key : List ℕ) (low place : ℕ) (found : List ℕ) → Ordered Before es → IsFirst es (entry_at key low) (Some place) found → (found ≡ key → ⊥)
    → FindsNumber (λ k. k ≡ key) low es None
key_other es key low place found o f d =
    let t = entry_at key low in
    let c = cut es t place found o f in
    by_parts (λ e. e.key ≡ key → low ≤ e.place → ⊥) es t f.x f.before f.after c
    (all_by_weaker (λ e. Before e t) (λ e. e.key ≡ key → low ≤ e.place → ⊥) f.before (λ e b q r. not_from key low e b q r) c.below)
    (λ q r. d (f.key_is ∙ q))
    (λ e b q r. d (f.key_is
    ∙ keys_one f.x.key key (subst (λ k. is_gt (keys_cmp f.x.key k) ≡ false) q (key_upto f.x e (before_not_behind f.x e b))) (key_upto t f.x f.from)))

-- ---- entries whose keys begin so

abbrev Covered : List ℕ → ℕ → Option ℕ → Entry → Type 0
Covered prefix low least e = HasPrefix prefix e.key → low ≤ e.place → IsNotBelow least e.place

-- an entry whose key is longer than one is not before entries of that one
extended : (prefix : List ℕ) (low : ℕ) (e : Entry) → Before e (entry_at prefix low) → HasPrefix prefix e.key → low ≤ e.place → ⊥
extended prefix low e b (rest, k) l =
    let same : e.key ≡ prefix = keys_one e.key prefix (key_upto e (entry_at prefix low) (before_not_behind e (entry_at prefix low) b))
    (subst (λ q. is_gt (keys_cmp prefix q) ≡ false) (sym k) (prefix_from prefix rest)) in
    not_from prefix low e b same l

each : (P : Entry → Type 0) (es : List Entry) → ((e : Entry) → P e) → AllBy P es
each P [] f = tt
each P (e ∷ es) f = (f e, each P es f)

pub walk_starts : (es : List Entry) (prefix : List ℕ) (low : ℕ) → IsWalkAt es prefix low prefix low None 0
walk_starts es prefix low = record {
  begins = ([], sym (append-nil prefix));
  met = tt;
  covered = each (λ e. Before e (entry_at prefix low) → HasPrefix prefix e.key → low ≤ e.place → ⊥) es (λ e b h l. extended prefix low e b h l);
  passed = [];
  rest = es;
  all = refl;
  below = tt;
  turns_are = omega arith;
}

-- what was met and no place that is sought below it
pub finds_met : (es : List Entry) (prefix : List ℕ) (low : ℕ) (least : Option ℕ) → MetOne prefix low es least → AllBy (Covered prefix low least) es
    → FindsNumber (HasPrefix prefix) low es least
finds_met es prefix low None m h = h
finds_met es prefix low (Some n) m h = record {
  before = m.before;
  x = m.x;
  after = m.after;
  all = m.all;
  key = m.key;
  place_is = m.place_is;
  from = m.from;
  least = h;
}

pub walk_ended : (es : List Entry) (prefix : List ℕ) (low : ℕ) (key : List ℕ) (from : ℕ) (least : Option ℕ) (turns : ℕ) → IsWalkAt es prefix low key from least turns
    → AllBy (λ e. Before e (entry_at key from)) es → FindsNumber (HasPrefix prefix) low es least
walk_ended es prefix low key from least turns w h =
    finds_met es prefix low least w.met
    (all_by_both (λ e. Before e (entry_at key from)) (λ e. Before e (entry_at key from) → Covered prefix low least e) (Covered prefix low least) es (λ e b f. f b) h w.covered)

pub walk_over : (es : List Entry) (prefix : List ℕ) (low : ℕ) (key : List ℕ) (from : ℕ) (least : Option ℕ) (turns place : ℕ) (found : List ℕ) → Ordered Before es
    → IsWalkAt es prefix low key from least turns → IsFirst es (entry_at key from) (Some place) found → (HasPrefix prefix found → ⊥)
    → FindsNumber (HasPrefix prefix) low es least
walk_over es prefix low key from least turns place found o w f d =
    let t = entry_at key from in
    let c = cut es t place found o f in
    finds_met es prefix low least w.met
    (by_parts (Covered prefix low least) es t f.x f.before f.after c
    (all_by_both (λ e. Before e t) (λ e. Before e t → Covered prefix low least e) (Covered prefix low least) f.before (λ e b g. g b) c.below
    (all_by_front (λ e. Before e t → Covered prefix low least e) f.before (f.x ∷ f.after) (subst (AllBy (λ e. Before e t → Covered prefix low least e)) f.all w.covered)))
    (λ h l. absurd (d (subst (HasPrefix prefix) (sym f.key_is) h)))
    (λ e b h l. absurd (d (subst (HasPrefix prefix) (sym f.key_is)
    (between_prefix prefix w.begins.0 f.x.key h.0
    (subst (λ k. is_gt (keys_cmp k f.x.key) ≡ false) w.begins.1 (key_upto t f.x f.from))
    (subst (λ k. is_gt (keys_cmp f.x.key k) ≡ false) h.1 (key_upto f.x e (before_not_behind f.x e b))))))))

-- the entries that a cut leaves before it are no fewer
cut_further : (t : Entry) (passed rest before : List Entry) (x : Entry) (after : List Entry) → AllBy (λ e. Before e t) passed → (Before x t → ⊥)
    → passed ++ rest ≡ before ++ x ∷ after → length passed ≤ length before
cut_further t [] rest before x after h d e = omega arith
cut_further t (p ∷ passed) rest [] x after h d e = absurd (d (subst (λ z. Before z t) (let f : p ≡ x = cc in f) h.0))
cut_further t (p ∷ passed) rest (b ∷ before) x after h d e =
    let r = cut_further t passed rest before x after h.1 d (let f : passed ++ rest ≡ before ++ x ∷ after = cc in f) in omega arith

abbrev not_behind_before : (t x : Entry) → NotBehind t x → Before x t → ⊥
not_behind_before t x h b = not_before_itself x (before_then x t x b h)

walk_further : (es : List Entry) (prefix : List ℕ) (low : ℕ) (key : List ℕ) (from : ℕ) (least now : Option ℕ) (turns place n : ℕ) (found : List ℕ) → Ordered Before es
    → IsWalkAt es prefix low key from least turns → IsFirst es (entry_at key from) (Some place) found → HasPrefix prefix found → place < n → MetOne prefix low es now
    → ((m : ℕ) → IsNotBelow least m → IsNotBelow now m)
    → (low ≤ place → IsNotBelow now place)
    → ((m : ℕ) → place < m → m < n → low ≤ m → IsNotBelow now m)
    → IsWalkAt es prefix low found n now (turns + 1)
walk_further es prefix low key from least now turns place n found o w f p g met keeps here between =
    let t = entry_at key from in
    let c = cut es t place found o f in
    let next = entry_at found n in
    let x_next : Before f.x next = lesser_before f.x found n (sym f.key_is) (let q = f.place_is in omega arith) in
    let t_next : NotBehind t next = before_not_behind t next (then_before t f.x next f.from x_next) in
    let own : AllBy (λ e. Before e next → Covered prefix low now e) f.before =
    all_by_both (λ e. Before e t) (λ e. Before e t → Covered prefix low least e) (λ e. Before e next → Covered prefix low now e) f.before
    (λ e b k _ h l. keeps e.place (k b h l)) c.below
    (all_by_front (λ e. Before e t → Covered prefix low least e) f.before (f.x ∷ f.after) (subst (AllBy (λ e. Before e t → Covered prefix low least e)) f.all w.covered)) in
    record {
      begins = p;
      met = met;
      covered = by_parts (λ e. Before e next → Covered prefix low now e) es t f.x f.before f.after c own
          (λ _ h l. subst (IsNotBelow now) f.place_is (here (let q = f.place_is in omega arith)))
          (λ e b k h l.
          let same : e.key ≡ f.x.key = between_keys f.x e n b (subst (λ q. Before e (entry_at q n)) f.key_is k) in
          let up = before_lesser f.x e (sym same) b in
          let down = before_lesser e next (same ∙ sym f.key_is) k in
          between e.place (let q = f.place_is in omega arith) down l);
      passed = f.before ++ f.x ∷ [];
      rest = f.after;
      all = f.all ∙ sym (append_assoc f.before (f.x ∷ []) f.after);
      below = all_by_append (λ e. Before e next) f.before (f.x ∷ [])
          (all_by_weaker (λ e. Before e t) (λ e. Before e next) f.before (λ e b. before_then e t next b t_next) c.below) (x_next, tt);
      turns_are =
          let a = cut_further t w.passed w.rest f.before f.x f.after w.below (not_behind_before t f.x f.from) (sym w.all ∙ f.all) in
          let b = length-append f.before (f.x ∷ []) in
          let d = w.turns_are in
          omega arith;
    }

-- an entry below the places that are sought
pub walk_below : (es : List Entry) (prefix : List ℕ) (low : ℕ) (key : List ℕ) (from : ℕ) (least : Option ℕ) (turns place : ℕ) (found : List ℕ) → Ordered Before es
    → IsWalkAt es prefix low key from least turns → IsFirst es (entry_at key from) (Some place) found → HasPrefix prefix found → place < low
    → IsWalkAt es prefix low found low least (turns + 1)
walk_below es prefix low key from least turns place found o w f p g =
    walk_further es prefix low key from least least turns place low found o w f p g w.met (λ m h. h) (λ h. absurd (omega arith)) (λ m a b c. absurd (omega arith))

met_here : (es : List Entry) (prefix : List ℕ) (low : ℕ) (t : Entry) (place : ℕ) (found : List ℕ) → IsFirst es t (Some place) found → HasPrefix prefix found → low ≤ place
    → IsMet prefix low es place
met_here es prefix low t place found f p l = record {
  before = f.before;
  x = f.x;
  after = f.after;
  all = f.all;
  key = subst (HasPrefix prefix) f.key_is p;
  place_is = sym f.place_is;
  from = l;
}

-- an entry of a place that is sought; the others of its key are behind it
pub walk_met : (es : List Entry) (prefix : List ℕ) (low : ℕ) (key : List ℕ) (from : ℕ) (least : Option ℕ) (turns place last now : ℕ) (found : List ℕ) → Ordered Before es
    → IsWalkAt es prefix low key from least turns → IsFirst es (entry_at key from) (Some place) found → HasPrefix prefix found → low ≤ place → place < last
    → IsLesser least place now → IsWalkAt es prefix low found last (Some now) (turns + 1)
walk_met es prefix low key from None turns place last now found o w f p l g s =
    walk_further es prefix low key from None (Some now) turns place last found o w f p g
    (subst (IsMet prefix low es) (sym s) (met_here es prefix low (entry_at key from) place found f p l)) (λ m h. absurd h) (λ h. omega arith) (λ m a b c. omega arith)
walk_met es prefix low key from (Some n) turns place last now found o w f p l g s =
    walk_further es prefix low key from (Some n) (Some now) turns place last found o w f p g
    (elim s.2 [
      | inl e ↦ subst (IsMet prefix low es) (sym e) w.met
      | inr e ↦ subst (IsMet prefix low es) (sym e) (met_here es prefix low (entry_at key from) place found f p l)
    ])
    (λ m h. let a = s.0 in omega arith) (λ h. s.1) (λ m a b c. let d = s.1 in omega arith)

-- what was found is the place of an entry
pub first_proper : (es : List Entry) (t : Entry) (place : ℕ) (found : List ℕ) → AllBy HasPlace es → IsFirst es t (Some place) found → place < 2 ^ 48
first_proper es t place found h f =
    let p : HasPlace f.x = all_by_here HasPlace f.before f.x f.after (subst (AllBy HasPlace) f.all h) in
    let q = f.place_is in
    omega arith

-- an entry of the key that is sought is one from there on
pub first_from_low : (es : List Entry) (key : List ℕ) (low place : ℕ) (found : List ℕ) → IsFirst es (entry_at key low) (Some place) found → found ≡ key → low ≤ place
first_from_low es key low place found f e =
    let l : low ≤ f.x.place = upto_lesser (entry_at key low) f.x (sym (sym f.key_is ∙ e)) f.from in
    let q = f.place_is in
    omega arith

-- ---- tests

abbrev TellsPrefix : List ℕ → List ℕ → Bool → Type 0
TellsPrefix prefix key r = (r ≡ true → key ≡ prefix ++ drop (length prefix) key) × ((rest : List ℕ) → key ≡ prefix ++ rest → r ≡ true)

pub begins_yes : (prefix key : List ℕ) (r : Bool) → TellsPrefix prefix key r → OnTrue r (HasPrefix prefix key)
begins_yes prefix key true h = (drop (length prefix) key, h.0 refl)
begins_yes prefix key false h = tt

pub begins_no : (prefix key : List ℕ) (r : Bool) → TellsPrefix prefix key r → OnFalse r (HasPrefix prefix key → ⊥)
begins_no prefix key true h = tt
begins_no prefix key false h = λ p. false≢true (h.1 p.0 p.1)

-- ---- the end of a walk

-- it has fewer turns than a tree can have entries
pub walk_short : (file : File) (s : Space) (top : ℕ) (es : List Entry) (pages : List ℕ) (leaves : ℕ) (prefix : List ℕ) (low : ℕ) (key : List ℕ) (from : ℕ) (least : Option ℕ) (turns : ℕ)
    → IsTree file s top es pages leaves → IsWalkAt es prefix low key from least turns → taken_in s file * 512 ≤ turns → ⊥
walk_short file s top es pages leaves prefix low key from least turns h w l =
    let a = entries_few file s top es pages leaves h in
    let b = line_few file s (Some top) pages h.line in
    let c = h.count in
    let d = w.turns_are in
    let e = ap length w.all ∙ length-append w.passed w.rest in
    absurd (omega arith)

pub number_small : (P : List ℕ → Type 0) (low : ℕ) (es : List Entry) (n : ℕ) → AllBy HasPlace es → IsLeastNumber P low es n → n < 2 ^ 48
number_small P low es n h l =
    let p : HasPlace l.x = all_by_here HasPlace l.before l.x l.after (subst (AllBy HasPlace) l.all h) in
    let q = l.place_is in
    omega arith

-- what was found is none, or the place of a version
pub found_cases : (X : Type 0) (P : List ℕ → Type 0) (low : ℕ) (es : List Entry) (least : Option ℕ) → AllBy HasPlace es → FindsNumber P low es least
    → (least ≡ None → X) → ((n : ℕ) → least ≡ Some n → low ≤ n → n < 2 ^ 48 → X) → X
found_cases X P low es None h f none some = none refl
found_cases X P low es (Some n) h f none some = some n refl f.from (number_small P low es n h f)
