-- The reader takes what is spelt, and nothing else. Assumes nothing.
use mathlib.Core.Path.{◌≡◌, refl, sym, ap, ap₂, subst, ◌∙◌}
use mathlib.Core.Bool.{Bool, true, false, ◌&&◌}
use mathlib.Core.List.{List, [], ◌∷◌, ◌++◌, append_assoc}
use Prim.Native.Nat.{ℕ, zero, suc, ◌+◌, ◌*◌, ◌/◌, ◌%◌, ◌^◌, ◌≤◌, ◌<◌}
use native.Mathlib.Nat.{pow-suc}
use native.Mathlib.Omega.{arith}
use borrow.Author.Tests.{eqb-true, leb-true}
use lib.Dec.{leb, eqb, lit<, lit≤}
use lib.ListN.{get_or, length, take, drop, length-append, length-take, length-drop, take-append-drop, drop_of_length-le}
use lib.Seq.{get_or_at, take-add, drop-drop, drop-append_seam, take-suc, get_or-drop, length-take-le}
use Rattle.base.proofs.Tests.{and_left, and_right}
use Rattle.log_bytes.specs.declared.Stage.{Stage}
use Rattle.log_bytes.specs.declared.Stage.TheVariants.{BeforeL}
use Rattle.log_bytes.specs.declared.Event.{Event}
use Rattle.log_bytes.specs.declared.Event.TheVariants.{Largest, Open, Close, Rename, Arrive, Serve, Passed}
use Rattle.log_bytes.specs.Format.{number_at, tag_in, length_in, tag_of, is_passed, length_of, last_tag, right_length, event_of, stage_after}
use Rattle.log_bytes.specs.declared.End.{End}
use Rattle.log_bytes.specs.declared.End.TheVariants.{Whole as whole}
use Rattle.log_bytes.specs.declared.Next.TheVariants.{GoesOn, Unfinished}
use Rattle.log_bytes.specs.Rows.{WholeField, next_of, read_log, Reads}
use Rattle.log_bytes.specs.Spelling.{bytes_of, Operand, operands_of, value_of, width_of, InWidth, field_of, value_in, SaysIf}
use Rattle.log_bytes.specs.Spelling.{Says, AllBytes, Spelt, log_of, AllSay, AllInTurn, with_offsets}
use Rattle.log_bytes.specs.Laws.{FieldBack, FieldOnly, LogBack, LogOnly}
use Rattle.log_bytes.proofs.Numbers.{number_lt}
use Rattle.log_bytes.proofs.Fields.{differ, read_is, next_steps}
use Rattle.log_bytes.proofs.Stages.{tag_turn}
use Rattle.log_bytes.proofs.Tags.{same_passed}
use Rattle.log_bytes.proofs.Wholes.{none_come}
use Rattle.log_bytes.proofs.Readings.{goes_is, end_here, ended_whole, has_reading, one_reading}

-- ---- numbers in bytes

pub bytes_length : (w x : ℕ) → length (bytes_of w x) ≡ w
unfolding bytes_of
bytes_length zero x = refl
bytes_length (suc w) x = length-append (bytes_of w (x / 256)) (x % 256 ∷ []) ∙ omega (arith, bytes_length w (x / 256))

-- a number that was written is read back
pub number_back : (w x : ℕ) (pre rest : List ℕ) → x < 256 ^ w → number_at (pre ++ (bytes_of w x ++ rest)) (length pre) w ≡ x
unfolding bytes_of number_at
number_back zero x pre rest h = omega arith
number_back (suc w) x pre rest h =
    let less : x / 256 < 256 ^ w = omega (arith, pow-suc 256 w) in
    let long : length (pre ++ bytes_of w (x / 256)) ≡ length pre + w = length-append pre (bytes_of w (x / 256)) ∙ omega (arith, bytes_length w (x / 256)) in
    let again : number_at (pre ++ (bytes_of w (x / 256) ++ (x % 256 ∷ rest))) (length pre) w ≡ x / 256 = number_back w (x / 256) pre (x % 256 ∷ rest) less in
    let last : get_or (pre ++ (bytes_of w (x / 256) ++ (x % 256 ∷ rest))) (length pre + w) 0 ≡ x % 256 =
    rw (← append_assoc) (get_or_at (pre ++ bytes_of w (x / 256)) (x % 256) rest 0 (length pre + w) long) in
    let all : (bytes_of w (x / 256) ++ (x % 256 ∷ [])) ++ rest ≡ bytes_of w (x / 256) ++ (x % 256 ∷ rest) =
    append_assoc (bytes_of w (x / 256)) (x % 256 ∷ []) rest in
    ap (λ (d : List ℕ). number_at (pre ++ d) (length pre) (suc w)) all ∙ (ap₂ (λ (a b : ℕ). a * 256 + b) again last ∙ omega arith)

-- ---- the numbers of a value

-- they stand one after another from an offset on
abbrev pub StandsAt : List ℕ → ℕ → List Operand → Type 0
StandsAt s at [] = Unit {0}
StandsAt s at (o ∷ os) = (number_at s at o.width ≡ o.number) × StandsAt s (at + o.width) os

pub value_back : (os : List Operand) (pre rest : List ℕ) → InWidth os → StandsAt (pre ++ (value_of os ++ rest)) (length pre) os
value_back [] pre rest f = tt
value_back (o ∷ os) pre rest f =
    let w = o.width in
    let x = o.number in
    let on : length (pre ++ bytes_of w x) ≡ length pre + w = length-append pre (bytes_of w x) ∙ omega (arith, bytes_length w x) in
    let later : StandsAt ((pre ++ bytes_of w x) ++ (value_of os ++ rest)) (length (pre ++ bytes_of w x)) os = value_back os (pre ++ bytes_of w x) rest f.1 in
    let all : (bytes_of w x ++ value_of os) ++ rest ≡ bytes_of w x ++ (value_of os ++ rest) = append_assoc (bytes_of w x) (value_of os) rest in
    let split : pre ++ (bytes_of w x ++ (value_of os ++ rest)) ≡ (pre ++ bytes_of w x) ++ (value_of os ++ rest) =
    sym (append_assoc pre (bytes_of w x) (value_of os ++ rest)) in
    subst (λ (d : List ℕ). (number_at d (length pre) w ≡ x) × StandsAt d (length pre + w) os) (ap (λ (d : List ℕ). pre ++ d) (sym all))
    (number_back w x pre (value_of os ++ rest) f.0, rw (split, ← on) later)

value_held : (value pre rest : List ℕ) (os : List Operand) → value ≡ value_of os → InWidth os → StandsAt (pre ++ (value ++ rest)) (length pre) os
value_held value pre rest os e f = rw e (value_back os pre rest f)

pub value_length : (os : List Operand) → length (value_of os) ≡ width_of os
value_length [] = refl
value_length (o ∷ os) = length-append (bytes_of o.width o.number) (value_of os) ∙ omega (arith, bytes_length o.width o.number, value_length os)

-- ---- an event that was written is read back

event_back : (s : List ℕ) (at : ℕ) (e : Event) → is_passed e ≡ false → StandsAt s at (operands_of e) → event_of s (tag_of e) at ≡ e
unfolding event_of
event_back s at (Largest l) p h = rw h.0
event_back s at (Open o) p h = rw (h.0, h.1.0)
event_back s at (Close a) p h = rw h.0
event_back s at (Rename a b) p h = rw (h.0, h.1.0)
event_back s at (Arrive a b n) p h = let q : at + 8 ≡ at + 4 + 4 = omega arith in rw (q, h.0, h.1.0, h.1.1.0)
event_back s at Serve p h = refl
event_back s at Passed p h = differ p

event_right : (e : Event) → is_passed e ≡ false → (right_length (tag_of e) (width_of (operands_of e)) ≡ true) × (width_of (operands_of e) ≤ 10)
unfolding right_length length_of
event_right (Largest l) p = (refl, lit≤ tt)
event_right (Open o) p = (refl, lit≤ tt)
event_right (Close a) p = (refl, lit≤ tt)
event_right (Rename a b) p = (refl, lit≤ tt)
event_right (Arrive a b n) p = (refl, lit≤ tt)
event_right Serve p = (refl, lit≤ tt)
event_right Passed p = differ p

is_passed_lem : (e : Event) → is_passed e ≡ true → e ≡ Passed
is_passed_lem e p = grind arith

passed_event : (s : List ℕ) (tag at : ℕ) → 128 ≤ tag → event_of s tag at ≡ Passed
unfolding event_of
passed_event s tag at l = (same_passed tag l).says s at

passed_right : (tag n : ℕ) → 128 ≤ tag → right_length tag n ≡ true
unfolding right_length
passed_right tag n l = (same_passed tag l).has n

pub field_length : (tag : ℕ) (value : List ℕ) → length (field_of tag value) ≡ 3 + length value
unfolding field_of
field_length tag value = simp (length-append) (omega (arith, bytes_length 2 (length value)))

-- a written field, parted before its length and before its value
split_length : (tag : ℕ) (value rest : List ℕ) → field_of tag value ++ rest ≡ (tag ∷ []) ++ (bytes_of 2 (length value) ++ (value ++ rest))
unfolding field_of
split_length tag value rest = simp append_assoc

split_value : (tag : ℕ) (value rest : List ℕ) → field_of tag value ++ rest ≡ (tag ∷ bytes_of 2 (length value)) ++ (value ++ rest)
unfolding field_of
split_value tag value rest = simp append_assoc

tag_back : (tag : ℕ) (value rest : List ℕ) → tag_in (field_of tag value ++ rest) ≡ tag
unfolding field_of
tag_back tag value rest = refl

length_back : (tag : ℕ) (value rest : List ℕ) → length value < 65536 → length_in (field_of tag value ++ rest) ≡ length value
length_back tag value rest l = rw (split_length tag value rest) (number_back 2 (length value) (tag ∷ []) (value ++ rest) l)

-- the event of a field, by whether it is passed over
said_if : (t : Bool) (e : Event) (tag : ℕ) (value rest : List ℕ) → is_passed e ≡ t → SaysIf t e tag value
    → (length value < 65536) × ((right_length tag (length value) ≡ true) × (event_of (field_of tag value ++ rest) tag 3 ≡ e))
said_if true e tag value rest p h = (h.1, (passed_right tag (length value) h.0.0, passed_event _ tag 3 h.0.0 ∙ sym (is_passed_lem e p)))
said_if false e tag value rest p h =
    let os = operands_of e in
    let s = field_of tag value ++ rest in
    let n : length value ≡ width_of os = ap length h.1.0 ∙ value_length os in
    let front = tag ∷ bytes_of 2 (length value) in
    let on : length front ≡ 3 = omega (arith, bytes_length 2 (length value)) in
    let held : StandsAt s (length front) os = rw (split_value tag value rest) (value_held value front rest os h.1.0 h.1.1) in (
      omega (arith, n, (event_right e p).1),
      (
        rw (n, h.0) (event_right e p).0,
        ap (λ (t : ℕ). event_of s t 3) h.0 ∙ event_back s 3 e p (subst (λ (i : ℕ). StandsAt s i os) on held),
      ),
    )

-- what is written is read
pub field_back : FieldBack
unfolding next_of
field_back e tag value rest at stage h t l =
    let s = field_of tag value ++ rest in
    let said = said_if (is_passed e) e tag value rest refl h in
    let is = tag_back tag value rest in
    let n = length_back tag value rest said.0 in
    let m = field_length tag value in
    let long = length-append (field_of tag value) rest in
    let event : event_of s (tag_in s) 3 ≡ e = ap (λ (i : ℕ). event_of s i 3) is ∙ said.1.1 in
    rw (
      next_steps at s (length s) stage,
      event,
      n,
      is,
      read_is at (length s) 0 (omega (arith, m, long)) (omega (arith, m, l)),
      tag_turn e tag value stage h t,
      read_is at (length s) 2 (omega (arith, m, long)) (omega (arith, m, l)),
      said.1.0,
      read_is at (length s) (2 + length value) (omega (arith, m, long)) (omega (arith, m, l)),
      t,
    ) (ap (GoesOn e) (sym m))

-- ---- a log that was written is read back, and ends whole

row_back : (xs : List Spelt) (at : ℕ) (stage : Stage) → at + length (log_of xs) ≤ 2 ^ 48 → AllSay xs → AllInTurn stage xs
    → Reads at (log_of xs) stage (with_offsets at xs) whole
unfolding next_of
row_back [] at stage l h t =
    let here : next_of at [] stage ≡ Unfinished 0 = none_come at [] stage in
    rw here (end_here at stage t)
row_back (x ∷ xs) at stage l h t =
    let field = field_of x.tag x.value in
    let long = length-append field (log_of xs) in
    let read = field_back x.event x.tag x.value (log_of xs) at stage h.0 t.0 (omega (arith, l, long)) in
    let later = row_back xs (at + length field) (stage_after stage x.event) (omega (arith, l, long)) h.1 t.1 in
    (refl, (length field, (refl, (read, rw (drop-append_seam field (log_of xs)) later))))

pub log_back : LogBack
log_back xs h t l =
    sym (one_reading (log_of xs) (record { fields = with_offsets 0 xs; ends = whole }) (row_back xs 0 BeforeL (omega (arith, l)) h t))

-- ---- what is read was written

byte_at : (s : List ℕ) → AllBytes s → (i : ℕ) → get_or s i 0 < 256
byte_at [] b i = lit< tt
byte_at (x ∷ s) b zero = b.0
byte_at (x ∷ s) b (suc i) = byte_at s b.1 i

-- a number's bytes are those it was read from
pub bytes_back : (w : ℕ) (s : List ℕ) (at : ℕ) → ((i : ℕ) → get_or s i 0 < 256) → at + w ≤ length s → bytes_of w (number_at s at w) ≡ take w (drop at s)
unfolding bytes_of number_at
bytes_back zero s at b l = refl
bytes_back (suc w) s at b l =
    let x = b (at + w) in
    let q : (number_at s at w * 256 + get_or s (at + w) 0) / 256 ≡ number_at s at w = omega (arith, x) in
    let m : (number_at s at w * 256 + get_or s (at + w) 0) % 256 ≡ get_or s (at + w) 0 = omega (arith, x) in
    let long : w < length (drop at s) = omega (arith, length-drop at s) in
    rw (q, m) (ap₂ (λ (d : List ℕ) (y : ℕ). d ++ (y ∷ [])) (bytes_back w s at b (omega arith)) (sym (get_or-drop at s w 0))
    ∙ sym (take-suc (drop at s) w 0 long))

value_of_lem : (os : List Operand) (s : List ℕ) (at : ℕ) → ((i : ℕ) → get_or s i 0 < 256) → at + width_of os ≤ length s → StandsAt s at os
    → value_of os ≡ take (width_of os) (drop at s)
value_of_lem [] s at b l h = refl
value_of_lem (o ∷ os) s at b l h =
    ap (λ (x : ℕ). bytes_of o.width x ++ value_of os) (sym h.0)
    ∙ ap₂ (λ (d r : List ℕ). d ++ r) (bytes_back o.width s at b (omega arith))
    (value_of_lem os s (at + o.width) b (omega arith) h.1 ∙ ap (take (width_of os)) (sym (drop-drop o.width at s)))
    ∙ sym (take-add o.width (width_of os) (drop at s))

fit_of : (os : List Operand) (s : List ℕ) (at : ℕ) → ((i : ℕ) → get_or s i 0 < 256) → StandsAt s at os → InWidth os
fit_of [] s at b h = tt
fit_of (o ∷ os) s at b h = (omega (arith, number_lt s at o.width b, h.0), fit_of os s (at + o.width) b h.1)

-- a tag that says something, with its length, says an event of that tag, with its numbers
record TagSays (s : List ℕ) (at tag n : ℕ) : Type 0 where
  taken : is_passed (event_of s tag at) ≡ false
  tagged : tag ≡ tag_of (event_of s tag at)
  sized : n ≡ width_of (operands_of (event_of s tag at))
  held : StandsAt s at (operands_of (event_of s tag at))

tag_says : (s : List ℕ) (at tag n : ℕ) → 1 ≤ tag → tag ≤ last_tag → n ≡ length_of tag → TagSays s at tag n
unfolding event_of length_of
tag_says s at zero n a b e = absurd (omega arith)
tag_says s at (suc zero) n a b e = record { taken = refl; tagged = refl; sized = e; held = (refl, (refl, tt)) }
tag_says s at (suc (suc zero)) n a b e = record { taken = refl; tagged = refl; sized = e; held = (refl, tt) }
tag_says s at (suc (suc (suc zero))) n a b e = record { taken = refl; tagged = refl; sized = e; held = (refl, (refl, tt)) }
tag_says s at (suc (suc (suc (suc zero)))) n a b e =
    let q : at + 4 + 4 ≡ at + 8 = omega arith in
    record { taken = refl; tagged = refl; sized = e; held = (refl, (refl, (ap (λ (i : ℕ). number_at s i 2) q, tt))) }
tag_says s at (suc (suc (suc (suc (suc zero))))) n a b e = record { taken = refl; tagged = refl; sized = e; held = tt }
tag_says s at (suc (suc (suc (suc (suc (suc zero)))))) n a b e = record { taken = refl; tagged = refl; sized = e; held = (refl, tt) }
tag_says s at (suc (suc (suc (suc (suc (suc (suc tag))))))) n a b e = absurd (omega arith)

value_in_length : (s : List ℕ) → 3 + length_in s ≤ length s → length (value_in s) ≡ length_in s
value_in_length s l = length-take-le (length_in s) (drop 3 s) (omega (arith, length-drop 3 s))

says_if : (t : Bool) (s : List ℕ) (at tag n : ℕ) → ((i : ℕ) → get_or s i 0 < 256) → leb 128 tag ≡ t → right_length tag n ≡ true → at + n ≤ length s → n < 65536
    → tag < 256
    → Says (event_of s tag at) tag (take n (drop at s))
unfolding right_length
says_if true s at tag n b p r l m k =
    rw (passed_event s tag at (leb-true 128 tag p)) ((leb-true 128 tag p, k), omega (arith, length-take n (drop at s)))
says_if false s at tag n b p r l m h =
    let k : (leb 1 tag) && ((leb tag last_tag) && (eqb n (length_of tag))) ≡ true = rw p at r in
    let j = and_right (leb 1 tag) _ k in
    let sized = eqb-true n (length_of tag) (and_right (leb tag last_tag) _ j) in
    let w = tag_says s at tag n (leb-true 1 tag (and_left _ _ k)) (leb-true tag last_tag (and_left _ _ j)) sized in
    let os = operands_of (event_of s tag at) in
    rw w.taken (
      w.tagged,
      (ap (λ (k : ℕ). take k (drop at s)) w.sized ∙ sym (value_of_lem os s at b (omega (arith, w.sized)) w.held), fit_of os s at b w.held),
    )

-- the bytes are a whole field's and what follows them
field_splits : (s : List ℕ) (size : ℕ) → ((i : ℕ) → get_or s i 0 < 256) → 3 + length_in s ≤ length s → size ≡ 3 + length_in s
    → s ≡ field_of (tag_in s) (value_in s) ++ drop size s
unfolding field_of
field_splits [] size b l e = absurd (omega (arith, l))
field_splits (x ∷ xs) size b l e =
    let s = x ∷ xs in
    let n = length_in s in
    let two : bytes_of 2 (length (value_in s)) ≡ take 2 xs = ap (bytes_of 2) (value_in_length s l) ∙ bytes_back 2 s 1 b (omega (arith, l)) in
    let after : value_in s ++ drop size s ≡ drop 2 xs =
    ap (λ (d : List ℕ). value_in s ++ d) (ap (λ (i : ℕ). drop i s) e ∙ sym (drop-drop n 3 s)) ∙ take-append-drop n (drop 3 s) in
    ap (λ (d : List ℕ). x ∷ d)
    (sym (append_assoc (bytes_of 2 (length (value_in s))) (value_in s) (drop size s) ∙ ap₂ (λ (d r : List ℕ). d ++ r) two after ∙ take-append-drop 2 xs))

-- a whole field is one that was written
pub field_only : FieldOnly
field_only at s stage e size b h =
    let w = goes_is at s stage e size h in
    let l : 3 + length_in s ≤ length s = omega (arith, w.has, w.size) in
    let f = byte_at s b in (
      (rw (← w.says) (says_if (leb 128 (tag_in s)) s 3 (tag_in s) (length_in s) f refl w.right l (number_lt s 1 2 f) (f 0)), w.turn),
      field_splits s size f l w.size,
    )

bytes_left : (n : ℕ) (s : List ℕ) → AllBytes s → AllBytes (drop n s)
bytes_left zero s b = b
bytes_left (suc n) [] b = b
bytes_left (suc n) (x ∷ s) b = bytes_left n s b.1

-- and a log that ends whole is one that was written
row_only : (at : ℕ) (s : List ℕ) (stage : Stage) (fs : List WholeField) (e : End) → AllBytes s → Reads at s stage fs e → e ≡ whole
    → (xs : List Spelt) × (AllSay xs × (AllInTurn stage xs × (s ≡ log_of xs)))
row_only at s stage [] e b r q =
    let w = ended_whole at s stage [] e r q in
    ([], (tt, (w.0, drop_of_length-le s {i = 0} (omega (arith, w.1)))))
row_only at s stage (f ∷ fs) e b r q =
    let size = r.1.0 in
    let o = field_only at s stage f.event size b r.1.1.1.0 in
    let w = row_only f.next (drop size s) (stage_after stage f.event) fs e (bytes_left size s b) r.1.1.1.1 q in
    let x : Spelt = record { event = f.event; tag = tag_in s; value = value_in s } in
    let bytes = ap (λ (d : List ℕ). field_of (tag_in s) (value_in s) ++ d) w.1.1.1 in
    (x ∷ w.0, ((o.0.0, w.1.0), ((o.0.1, w.1.1.0), o.1 ∙ bytes)))

pub log_only : LogOnly
log_only s b h = row_only 0 s BeforeL (read_log s).fields (read_log s).ends b (has_reading s) h
