-- how a line begins, by what it is read as
use Rattle.std.proofs.Common.{◌≡◌, ℕ, ◌<◌, ◌≤◌, Bool, true, false, List, [], ◌∷◌, length, take, refl, sym, ap, subst}
use Rattle.hg_base.specs.declared.File.{File}
use Rattle.hg_base.specs.declared.File.TheVariants as file
use Rattle.hg_machine.specs.Plain.Begin.{BeginsCommand, BeginsLine, is_blank, is_too_long, is_no_command, has_bad_number, has_too_many, is_not_built, asks}
use Rattle.hg_machine.specs.Plain.Loose.{Loosely, with_any_rows, finds_damage, misses_doubles, looks_at_pages, LineLooks}
use Rattle.hg_machine.specs.Plain.Refused.{line_too_long}
use Rattle.hg_machine.specs.Plain.Replies.{ReplyLine, is_code, fault_code}
use Rattle.hg_machine.specs.Plain.State.{State}
use Rattle.hg_model.specs.LineReading.{ReadsLine, ReadAs, too_long, read}
use Rattle.hg_model.specs.Reading.{Reading, Reads, Blank, Statement}
use Rattle.hg_model.specs.Script.{Line, text_of_line, IsNotTooLong}
use Rattle.hg_model.specs.Statements.{CommandTree}
use Rattle.hg_parse.specs.Keeping.{Kept}
use Rattle.hg_parse.specs.Statements.{reading_in}
use Rattle.hg_parse.specs.declared.statement.ParseError.{ParseError}
use Rattle.hg_parse.specs.declared.statement.ParseError.TheVariants as error
use Rattle.std.specs.Prelude.{Err}
use Rattle.hg_reply.specs.Built.{is_built}
use Rattle.hg_reply.specs.Asked.{IsReadAs}
use Rattle.hg_reply.specs.Steps.{BeginsSo, BeginsRead, is_there, is_not_there}
use Rattle.hg_serve.specs.Asking.{Beginning, refusal_of}
use Rattle.hg_serve.proofs.LineLemmas.{short-whole}

-- the machine's own beginning is one in either manner
begins-plainly : (tells : Bool) (line : Line) (old new : State) (rs : List ReplyLine) → BeginsLine is_built old line rs new
    → Beginning tells line old rs new
begins-plainly true line old new rs begins = begins
begins-plainly false line old new rs begins = with_any_rows old refl begins

-- the states of an engine have its greatest number of frames
reads-at : (s : State) (max : ℕ) (line : Line) (r : Reading) → s.max ≡ max → IsNotTooLong line → Reads max (text_of_line line) r
    → ReadsLine s.max line (ReadAs r)
reads-at s max line r same short reads = subst (λ n. ReadsLine n line (ReadAs r)) (sym same) (read r short reads)

pub begins-long : (tells : Bool) (line : Line) (s : State) → 4096 < length line.bytes → Beginning tells line s (line_too_long ∷ []) s
begins-long tells line s long = begins-plainly tells line s s (line_too_long ∷ []) (is_too_long (too_long long) refl refl)

pub begins-blank : (tells : Bool) (line : Line) (s : State) (max : ℕ) → s.max ≡ max → IsNotTooLong line → Reads max (text_of_line line) Blank
    → Beginning tells line s [] s
begins-blank tells line s max same short reads = begins-plainly tells line s s [] (is_blank (reads-at s max line Blank same short reads) refl refl)

pub begins-refused : (tells : Bool) (line : Line) (s : State) (max : ℕ) (k : Kept) (e : ParseError) → s.max ≡ max → IsNotTooLong line
    → Reads max (text_of_line line) (reading_in (Err e) k) → Beginning tells line s (refusal_of e ∷ []) s
begins-refused tells line s max k error.Syntax same short reads =
    begins-plainly tells line s s (refusal_of error.Syntax ∷ []) (is_no_command (reads-at s max line _ same short reads) refl refl)
begins-refused tells line s max k error.BadNumber same short reads =
    begins-plainly tells line s s (refusal_of error.BadNumber ∷ []) (has_bad_number (reads-at s max line _ same short reads) refl refl)
begins-refused tells line s max k (error.TooMany kind) same short reads =
    begins-plainly tells line s s (refusal_of (error.TooMany kind) ∷ []) (has_too_many kind (reads-at s max line _ same short reads) refl refl)

-- a command that begins in the loose manner
begins-loosely : (line : Line) (c : CommandTree) (texts : List ℕ) (old new : State) (rs : List ReplyLine)
    → ReadsLine old.max line (ReadAs (Statement c texts)) → is_built c ≡ true
    → Loosely (λ s. looks_at_pages c ≡ true) (λ s. BeginsCommand s c texts) old rs new
    → Loosely (LineLooks line) (λ s. BeginsLine is_built s line) old rs new
begins-loosely line c texts old new rs reads built (with_any_rows seen alike step) =
    with_any_rows seen alike (asks c texts (subst (λ n. ReadsLine n line (ReadAs (Statement c texts))) (ap (λ (s : State). s.max) alike) reads) built step)
begins-loosely line c texts old new rs reads built (finds_damage seen file page check more looks alike step is) =
    finds_damage seen file page check more (c, texts, reads, looks) alike
    (asks c texts (subst (λ n. ReadsLine n line (ReadAs (Statement c texts))) (ap (λ (s : State). s.max) alike) reads) built step) is
begins-loosely line c texts old new rs reads built (misses_doubles seen after alike step same is) =
    misses_doubles seen after alike
    (asks c texts (subst (λ n. ReadsLine n line (ReadAs (Statement c texts))) (ap (λ (s : State). s.max) alike) reads) built step) same is

begins-so : (tells : Bool) (line : Line) (c : CommandTree) (texts : List ℕ) (old new : State) (rs : List ReplyLine)
    → ReadsLine old.max line (ReadAs (Statement c texts)) → is_built c ≡ true → BeginsSo tells c texts old rs new
    → Beginning tells line old rs new
begins-so true line c texts old new rs reads built begins = asks c texts reads built begins
begins-so false line c texts old new rs reads built begins = begins-loosely line c texts old new rs reads built begins

begins-by : (tells : Bool) (line : Line) (c : CommandTree) (texts : List ℕ) (old new : State) (rs : List ReplyLine)
    → ReadsLine old.max line (ReadAs (Statement c texts)) → BeginsRead tells c texts old rs new → Beginning tells line old rs new
begins-by tells line c texts old new rs reads (is_there built begins) = begins-so tells line c texts old new rs reads built begins
begins-by tells line c texts old new rs reads (is_not_there not is same) =
    begins-plainly tells line old new rs (is_not_built c texts reads not is same)

pub begins-read : (tells : Bool) (line : Line) (c : CommandTree) (texts : List ℕ) (old new : State) (rs : List ReplyLine) (max : ℕ)
    → old.max ≡ max → IsNotTooLong line → Reads max (text_of_line line) (Statement c texts) → BeginsRead tells c texts old rs new
    → Beginning tells line old rs new
begins-read tells line c texts old new rs max same short reads begins =
    begins-by tells line c texts old new rs (reads-at old max line (Statement c texts) same short reads) begins

-- a line of which all was kept
pub all-kept : (kept whole : List ℕ) (ended : Bool) (max : ℕ) (r : Reading) → kept ≡ take 4097 whole → length kept ≤ 4096
    → Reads max (text_of_line (record { bytes = kept; ended = ended })) r
    → IsNotTooLong (record { bytes = whole; ended = ended }) × Reads max (text_of_line (record { bytes = whole; ended = ended })) r
all-kept kept whole ended max r is short reads =
    let same : kept ≡ whole = sym (short-whole kept whole is short) in
    subst (λ (b : List ℕ). IsNotTooLong (record { bytes = b; ended = ended }) × Reads max (text_of_line (record { bytes = b; ended = ended })) r) same (short, reads)

-- what an answer of the parser says
pub reads-text : (max : ℕ) (text line : List ℕ) (r : Reading) → text ≡ line → Reads max text r → Reads max line r
reads-text max text line r same reads = subst (λ l. Reads max l r) same reads

-- no refusal says that a device failed
pub refusal-no_fault : (f : File) (e : ParseError) → is_code (fault_code f) (refusal_of e) ≡ false
refusal-no_fault file.Main error.Syntax = refl
refusal-no_fault file.Main error.BadNumber = refl
refusal-no_fault file.Main (error.TooMany kind) = refl
refusal-no_fault file.Temp error.Syntax = refl
refusal-no_fault file.Temp error.BadNumber = refl
refusal-no_fault file.Temp (error.TooMany kind) = refl

-- the same command in other words
pub read-same : (n : ℕ) (t u : CommandTree) (x y : List ℕ) → t ≡ u → x ≡ y → IsReadAs n t x → IsReadAs n u y
read-same n t u x y same texts is = subst (λ z. IsReadAs n u z) texts (subst (λ z. IsReadAs n z x) same is)

pub begins-same : (tells : Bool) (t u : CommandTree) (x y : List ℕ) (a b : State) (rs : List ReplyLine) → t ≡ u → x ≡ y
    → BeginsRead tells t x a rs b → BeginsRead tells u y a rs b
begins-same tells t u x y a b rs same texts begins =
    subst (λ z. BeginsRead tells u z a rs b) texts (subst (λ z. BeginsRead tells z x a rs b) same begins)
