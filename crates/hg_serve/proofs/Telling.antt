-- how what goes to the sink, the error lines and the fault lines add up
use Rattle.std.proofs.Common.{◌≡◌, ℕ, ◌+◌, ◌≤◌, length, length-append, List, [], ◌∷◌, ◌++◌, ◌||◌, Bool, true, false, Option, None, Some, Result, Ok, Err, OnErr, refl, sym, ap, ◌∙◌, subst, arith, append_assoc, append-nil}
use Rattle.std.proofs.lemmas.Grind.{flat_map-append}
use Rattle.hg_base.specs.declared.File.{File}
use Rattle.hg_base.specs.declared.File.TheVariants.{Main, Temp}
use Rattle.hg_io.specs.Bytes.{then, then-then}
use Rattle.hg_machine.specs.Plain.Replies.{ReplyLine, line_text, is_error, is_code, code_lines, fault_code, text_of, has_error, fault_lines}
use Rattle.hg_reply.specs.declared.reply.Reply.{Reply as Said}
use Rattle.hg_reply.specs.Steps.{DeviceFacts, NoneFell, Counted, Says}
use Rattle.hg_serve.specs.declared.output.Output.{Output}
use Rattle.hg_serve.specs.Output.{Passes, Breaks, Moment, moment, Tells, TellsInPart, Stops}

pub or-false : (b : Bool) → (b || false) ≡ b
or-false true = refl
or-false false = refl

pub then-nil : (w : Option (List ℕ)) → then w [] ≡ w
then-nil None = refl
then-nil (Some xs) = ap Some (append-nil xs)

pub or-assoc : (a b c : Bool) → (a || b || c) ≡ (a || (b || c))
or-assoc true b c = refl
or-assoc false b c = refl

pub text_of-append : (rs ss : List ReplyLine) → text_of (rs ++ ss) ≡ text_of rs ++ text_of ss
unfolding text_of
text_of-append rs ss = flat_map-append line_text rs ss

pub has_error-append : (rs ss : List ReplyLine) → has_error (rs ++ ss) ≡ (has_error rs || has_error ss)
unfolding has_error
has_error-append [] ss = refl
has_error-append (r ∷ rs) ss = ap (λ b. is_error r || b) (has_error-append rs ss) ∙ sym (or-assoc (is_error r) (has_error rs) (has_error ss))

pub fault_lines-append : (file : File) (rs ss : List ReplyLine) → fault_lines file (rs ++ ss) ≡ fault_lines file rs + fault_lines file ss
unfolding code_lines
fault_lines-append file [] ss = omega arith
fault_lines-append file (r ∷ rs) ss = omega (arith, fault_lines-append file rs ss)

pub text_of-nil : text_of [] ≡ []
unfolding text_of
text_of-nil = refl

pub text_of-one : (r : ReplyLine) → line_text r ≡ text_of (r ∷ [])
unfolding text_of
text_of-one r = sym (append-nil (line_text r))

pub has_error-nil : has_error [] ≡ false
unfolding has_error
has_error-nil = refl

pub has_error-one : (r : ReplyLine) → is_error r ≡ has_error (r ∷ [])
unfolding has_error
has_error-one r = sym (or-false (is_error r))

pub fault_lines-nil : (file : File) → fault_lines file [] ≡ 0
unfolding code_lines
fault_lines-nil file = refl

pub fault_lines-one : (file : File) (r : ReplyLine) → is_code (fault_code file) r ≡ false → fault_lines file (r ∷ []) ≡ 0
unfolding code_lines
fault_lines-one file r none = rw none

-- whatever an error says
pub on_err : {T E : Type 0} {P : Type 0} (r : Result T E) → P → OnErr r P
on_err (Ok x) p = tt
on_err (Err e) p = p

-- the bytes

pub passes-none : (w : Option (List ℕ)) (waiting : List ℕ) → Passes w w waiting waiting []
passes-none w waiting = record { passed = []; parts = append-nil waiting; written = sym (then-nil w) }

pub passes-then : (w0 w1 w2 : Option (List ℕ)) (b0 b1 b2 t u : List ℕ) → Passes w0 w1 b0 b1 t → Passes w1 w2 b1 b2 u
    → Passes w0 w2 b0 b2 (t ++ u)
passes-then w0 w1 w2 b0 b1 b2 t u p q = record {
  passed = p.passed ++ q.passed;
  parts =
      sym (append_assoc b0 t u) ∙ ap (λ l. l ++ u) p.parts ∙ append_assoc p.passed b1 u ∙ ap (λ l. p.passed ++ l) q.parts
      ∙ sym (append_assoc p.passed q.passed b2);
  written = q.written ∙ ap (λ w. then w q.passed) p.written ∙ then-then w0 p.passed q.passed;
}

pub breaks-then : (w0 w1 w2 : Option (List ℕ)) (b0 b1 t u : List ℕ) → Passes w0 w1 b0 b1 t → Breaks w1 w2 b1 u → Breaks w0 w2 b0 (t ++ u)
breaks-then w0 w1 w2 b0 b1 t u p q = record {
  front = p.passed ++ q.front;
  rest = q.rest;
  parts =
      sym (append_assoc b0 t u) ∙ ap (λ l. l ++ u) p.parts ∙ append_assoc p.passed b1 u ∙ ap (λ l. p.passed ++ l) q.parts
      ∙ sym (append_assoc p.passed q.front q.rest);
  written = q.written ∙ ap (λ w. then w q.front) p.written ∙ then-then w0 p.passed q.front;
}

pub breaks-more : (w0 w1 : Option (List ℕ)) (b t u : List ℕ) → Breaks w0 w1 b t → Breaks w0 w1 b (t ++ u)
breaks-more w0 w1 b t u p = record {
  front = p.front;
  rest = p.rest ++ u;
  parts = sym (append_assoc b t u) ∙ ap (λ l. l ++ u) p.parts ∙ append_assoc p.front p.rest u;
  written = p.written;
}

-- what waited was written whole
pub passes-flushed : (w0 w1 : Option (List ℕ)) (b0 b1 : List ℕ) → Passes w0 w1 b0 [] [] → b1 ≡ [] → Passes w0 w1 b0 b1 []
passes-flushed w0 w1 b0 b1 p empty = record { passed = p.passed; parts = p.parts ∙ ap (λ l. p.passed ++ l) (sym empty); written = p.written }

-- the counts of faults

pub counted-none : (f : DeviceFacts) → Counted f f []
counted-none f = record {
  main = omega (arith, fault_lines-nil Main);
  temp = omega (arith, fault_lines-nil Temp);
}

pub counted-then : (f g h : DeviceFacts) (rs ss : List ReplyLine) → Counted f g rs → Counted g h ss → Counted f h (rs ++ ss)
counted-then f g h rs ss p q = record {
  main = omega (arith, fault_lines-append Main rs ss, p.main, q.main);
  temp = omega (arith, fault_lines-append Temp rs ss, p.temp, q.temp);
}

pub fell-none : (f : DeviceFacts) → NoneFell f f
fell-none f = record { main = omega arith; temp = omega arith; main_pages = refl; temp_pages = refl }

pub fell-then : (f g h : DeviceFacts) → NoneFell f g → NoneFell g h → NoneFell f h
fell-then f g h p q = record {
  main = omega (arith, p.main, q.main);
  temp = omega (arith, p.temp, q.temp);
  main_pages = q.main_pages ∙ p.main_pages;
  temp_pages = q.temp_pages ∙ p.temp_pages;
}

-- a reply of one line that says of no fault, or of none
pub says-one : (s : Said) (f : DeviceFacts) (r : ReplyLine) → s.text.items ≡ line_text r → s.has_error ≡ is_error r
    → is_code 17 r ≡ false → is_code 18 r ≡ false → Says s f f (r ∷ [])
says-one s f r text errors main temp = record {
  said = record { text = text ∙ text_of-one r; errors = errors ∙ has_error-one r };
  counted = record { main = omega (arith, fault_lines-one Main r main); temp = omega (arith, fault_lines-one Temp r temp) };
}

pub says-none : (s : Said) (f : DeviceFacts) → s.text.items ≡ [] → s.has_error ≡ false → Says s f f []
says-none s f text errors = record {
  said = record { text = text ∙ sym text_of-nil; errors = errors ∙ sym has_error-nil };
  counted = counted-none f;
}

-- lines that were told

pub tells-none : (m : Moment) (output : Output) → Tells m m output output []
unfolding text_of has_error
tells-none m output = record {
  passes = passes-none m.written output.bytes.items;
  errors = sym (or-false output.errors);
  counted = counted-none m.faults;
  said = omega arith;
}

-- the engine said no more than two lists of lines, one after the other
pub said-then : (n0 n1 n2 : ℕ) (rs ss : List ReplyLine) → n1 ≤ n0 + length (text_of rs) → n2 ≤ n1 + length (text_of ss) → n2 ≤ n0 + length (text_of (rs ++ ss))
said-then n0 n1 n2 rs ss p q = omega (arith, ap length (text_of-append rs ss), length-append (text_of rs) (text_of ss), p, q)

pub tells-then : (m0 m1 m2 : Moment) (a b c : Output) (rs ss : List ReplyLine) → Tells m0 m1 a b rs → Tells m1 m2 b c ss
    → Tells m0 m2 a c (rs ++ ss)
tells-then m0 m1 m2 a b c rs ss p q = record {
  passes = rw (text_of-append rs ss) (passes-then _ _ _ a.bytes.items b.bytes.items c.bytes.items (text_of rs) (text_of ss) p.passes q.passes);
  errors = q.errors ∙ ap (λ e. e || has_error ss) p.errors ∙ or-assoc a.errors (has_error rs) (has_error ss)
      ∙ ap (λ e. a.errors || e) (sym (has_error-append rs ss));
  counted = counted-then m0.faults m1.faults m2.faults rs ss p.counted q.counted;
  said = said-then m0.said m1.said m2.said rs ss p.said q.said;
}

-- a step of the engine, and its reply put behind the others
pub tells-put : (w0 w1 : Option (List ℕ)) (f0 f1 : DeviceFacts) (n0 n1 : ℕ) (a b : Output) (r : Said) (rs : List ReplyLine) → Says r f0 f1 rs
    → Passes w0 w1 a.bytes.items b.bytes.items r.text.items → b.errors ≡ (a.errors || r.has_error) → n1 ≤ n0 + length r.text.items
    → Tells (moment w0 f0 n0) (moment w1 f1 n1) a b rs
tells-put w0 w1 f0 f1 n0 n1 a b r rs s passes errors said = record {
  passes = subst (λ t. Passes w0 w1 a.bytes.items b.bytes.items t) s.said.text passes;
  errors = errors ∙ ap (λ e. a.errors || e) s.said.errors;
  counted = s.counted;
  said = omega (arith, ap length s.said.text, said);
}

-- a step of the engine, in whose reply the sink failed
pub part-put : (w0 w1 : Option (List ℕ)) (f0 f1 : DeviceFacts) (n0 n1 : ℕ) (waiting : List ℕ) (r : Said) (rs : List ReplyLine) → Says r f0 f1 rs
    → Breaks w0 w1 waiting r.text.items → TellsInPart (moment w0 f0 n0) (moment w1 f1 n1) waiting rs
part-put w0 w1 f0 f1 n0 n1 waiting r rs s breaks =
    record { breaks = subst (λ t. Breaks w0 w1 waiting t) s.said.text breaks; counted = s.counted }

-- what was said and not written, at the sink's fault and in the lines before it

pub stops-put : (w0 w1 : Option (List ℕ)) (f0 f1 : DeviceFacts) (n0 n1 : ℕ) (waiting text : List ℕ) → Breaks w0 w1 waiting text
    → n1 ≤ n0 + length text → length waiting + length text ≤ 49152 → Stops (moment w0 f0 n0) (moment w1 f1 n1) waiting
stops-put w0 w1 f0 f1 n0 n1 waiting text breaks said few =
    record { front = breaks.front; written = breaks.written; few = omega (arith, said, few) }

pub stops-later : (m0 m1 m2 : Moment) (b0 b1 text : List ℕ) → Passes m0.written m1.written b0 b1 text → m1.said ≤ m0.said + length text
    → Stops m1 m2 b1 → Stops m0 m2 b0
stops-later m0 m1 m2 b0 b1 text p said s = record {
  front = p.passed ++ s.front;
  written = s.written ∙ ap (λ w. then w s.front) p.written ∙ then-then m0.written p.passed s.front;
  few = omega (arith, ap length p.parts, length-append b0 text, length-append p.passed b1, length-append p.passed s.front, said, s.few);
}

-- lines that were told, and others in whose reply the sink failed
pub part-then : (m0 m1 m2 : Moment) (a b : Output) (rs ss : List ReplyLine) → Tells m0 m1 a b rs → TellsInPart m1 m2 b.bytes.items ss
    → TellsInPart m0 m2 a.bytes.items (rs ++ ss)
part-then m0 m1 m2 a b rs ss p q = record {
  breaks = rw (text_of-append rs ss) (breaks-then _ _ _ a.bytes.items b.bytes.items (text_of rs) (text_of ss) p.passes q.breaks);
  counted = counted-then m0.faults m1.faults m2.faults rs ss p.counted q.counted;
}
