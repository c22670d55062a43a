-- Laws of keys, and of functions of them that are made file by file.
use Rattle.std.specs.Prelude.{◌≡◌, ◌≢◌, ℕ, ◌+◌, ◌*◌, ◌/◌, ◌%◌, ◌==◌, true, false, Option, None, Some}
use Rattle.std.proofs.Common.{◌∙◌, ap, refl, arith}
use Rattle.std.proofs.lemmas.Bool.Decides.{nat_tests}
use Rattle.hg_base.specs.Space.{at, key, key_in}
use Rattle.hg_base.specs.Changes.{functions_agree}
use Rattle.hg_base.specs.declared.File.{File}
use Rattle.hg_base.specs.declared.File.TheVariants.{Main, Temp}
use Rattle.hg_base.specs.declared.PageId.{PageId}
use Rattle.hg_pool.specs.Files.{by_key}
use Rattle.hg_pool.specs.Picture.{is_key_of}

half_even : (n : ℕ) → (2 * n) / 2 ≡ n
half_even n = omega arith

half_odd : (n : ℕ) → (2 * n + 1) / 2 ≡ n
half_odd n = omega arith

rest_even : (n : ℕ) → ((2 * n) % 2 == 0) ≡ true
rest_even n = grind (arith, nat_tests)

rest_odd : (n : ℕ) → ((2 * n + 1) % 2 == 0) ≡ false
rest_odd n = grind (arith, nat_tests)

pub by_key-main : {X : Type 0} (main temp : ℕ → X) (n : ℕ) → by_key main temp (key_in Main n) ≡ main n
by_key-main main temp n = rw (rest_even n, half_even n) refl

pub by_key-temp : {X : Type 0} (main temp : ℕ → X) (n : ℕ) → by_key main temp (key_in Temp n) ≡ temp n
by_key-temp main temp n = rw (rest_odd n, half_odd n) refl

at-main_at : {X : Type 0} (main temp : ℕ → X) (n : ℕ) (x : X) (q : ℕ) → by_key (at main n x) temp q ≡ at (by_key main temp) (key_in Main n) x q
at-main_at main temp n x q = grind (arith, nat_tests)

at-temp_at : {X : Type 0} (main temp : ℕ → X) (n : ℕ) (x : X) (q : ℕ) → by_key main (at temp n x) q ≡ at (by_key main temp) (key_in Temp n) x q
at-temp_at main temp n x q = grind (arith, nat_tests)

-- a change of one file's function at a number is a change at the page's key
pub at-main : {X : Type 0} (main temp : ℕ → X) (n : ℕ) (x : X) → by_key (at main n x) temp ≡ at (by_key main temp) (key_in Main n) x
at-main main temp n x = functions_agree (by_key (at main n x) temp) (at (by_key main temp) (key_in Main n) x) (at-main_at main temp n x)

pub at-temp : {X : Type 0} (main temp : ℕ → X) (n : ℕ) (x : X) → by_key main (at temp n x) ≡ at (by_key main temp) (key_in Temp n) x
at-temp main temp n x = functions_agree (by_key main (at temp n x)) (at (by_key main temp) (key_in Temp n) x) (at-temp_at main temp n x)

pub at-here : {X : Type 0} (f : ℕ → X) (p : ℕ) (x : X) → at f p x p ≡ x
at-here f p x = grind (arith, nat_tests)

pub at-other : {X : Type 0} (f : ℕ → X) (p : ℕ) (x : X) (q : ℕ) → q ≢ p → at f p x q ≡ f q
at-other f p x q h = grind (arith, nat_tests)

-- pages with one key are one
pub key_in-one : (a b : File) (n m : ℕ) → key_in a n ≡ key_in b m → (a ≡ b) × (n ≡ m)
key_in-one Main Main n m e = (refl, omega arith)
key_in-one Main Temp n m e = absurd (omega arith)
key_in-one Temp Main n m e = absurd (omega arith)
key_in-one Temp Temp n m e = (refl, omega arith)

pub key-one : (a b : PageId) → key a ≡ key b → a ≡ b
key-one a b e = let both = key_in-one a.file b.file a.no b.no e in λ i. record { file = both.0 i; no = both.1 i }

pub is_key_of-true : (q : ℕ) (o : Option PageId) → is_key_of q o ≡ true → (p : PageId) × (o ≡ Some p) × (key p ≡ q)
is_key_of-true q None h = absurd (cc)
is_key_of-true q (Some p) h = (p, refl, grind (arith, nat_tests))

pub is_key_of-here : (p : PageId) → is_key_of (key p) (Some p) ≡ true
is_key_of-here p = grind (arith, nat_tests)

pub is_key_of-other : (q : ℕ) (p : PageId) → q ≢ key p → is_key_of q (Some p) ≡ false
is_key_of-other q p h = grind (arith, nat_tests)

-- the same at the key of a page
pub by_key-of-main : {X : Type 0} (main temp : ℕ → X) (page : PageId) → page.file ≡ Main → by_key main temp (key page) ≡ main page.no
by_key-of-main main temp page e = ap (λ f. by_key main temp (key_in f page.no)) e ∙ by_key-main main temp page.no

pub by_key-of-temp : {X : Type 0} (main temp : ℕ → X) (page : PageId) → page.file ≡ Temp → by_key main temp (key page) ≡ temp page.no
by_key-of-temp main temp page e = ap (λ f. by_key main temp (key_in f page.no)) e ∙ by_key-temp main temp page.no
