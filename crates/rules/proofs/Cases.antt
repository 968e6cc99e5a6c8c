-- What a single call can come to: every law over all calls goes by these cases.
use mathlib.Core.Path.{◌≡◌, refl, sym, ap, subst, ◌∙◌}
use mathlib.Core.Bool.{Bool, true, false, not, ◌&&◌, ◌||◌, true≢false, false≢true}
use mathlib.Core.Logic.{◌⊎◌, inl, inr, ◌≢◌}
use mathlib.Core.Option.{Option, none, some}
use mathlib.Core.List.{List, [], ◌∷◌}
use Prim.Native.Nat.{ℕ, suc, ◌+◌, ◌*◌, ◌-◌, ◌^◌, ◌≤◌, ◌<◌, max}
use native.Mathlib.Omega.{arith}
use native.Mathlib.Decide.{ℕ_discrete}
use lib.Dec.{ltb, eqb}
use lib.ListN.{length, get_or-eq_default}
use Rattle.base.specs.Tests.{least}
use Rattle.base.proofs.Tests.{least_true, least_false, and_left, and_right}
use Rattle.base.proofs.Numbers.{split, leb_yes, true_le, false_lt, eqb_true, eqb_yes}
use Rattle.rules.specs.Board.{Record, Place, free_place, Board, at, depth, is_open, Has, NoneHas, free_share, used_share, bytes_charged, front}
use Rattle.rules.specs.Choice.{done, Turn, refuse, Check, guarded, where_is, some_has, none_has, number_outside, length_outside, record_checks, take_record}
use Rattle.rules.specs.Choice.{took_at, go_on}
use Rattle.rules.specs.Choice.{least_ready, lowest, chosen, begin, begin_checks, send, serve, serve_by, left_of}
use Rattle.rules.specs.Blocks.{Opening, opened, free_at, share_outside, open_checks, open_block, renamed, rename_checks, rename_block, closed, close_checks}
use Rattle.rules.specs.Blocks.{close_block}
use Rattle.rules.specs.Spoilt.{is_serving, is_at}
use Rattle.rules.specs.Calls.{Single, open!, rename!, close!, record!, serve!, step}
use Rattle.rules.proofs.Checks.{Fail, First, guarded_cases}
use Rattle.rules.proofs.Shape.{Shape, LeastIs, least_is, Chosen, choose, queued_in, queued_ok}
use Rattle.rules.proofs.Slot.{serving_ok, serving_in}
use Rattle.rules.proofs.Tidy.{Tidy}
use Rattle.units.specs.Credit.{largest_charge}

-- ---- Refusals

-- a refusal's code is none of 0, 2 and 3
abbrev is_refusal : ℕ → Bool
is_refusal code = not (eqb code 0) && (not (eqb code 2) && not (eqb code 3))

abbrev pub Refusal : ℕ → Type 0
Refusal code = is_refusal code ≡ true

not_true : (t : Bool) → not t ≡ true → t ≡ false
not_true true e = absurd (false≢true e)
not_true false e = refl

pub refusal_not0 : (code : ℕ) → Refusal code → eqb code 0 ≡ false
refusal_not0 code r = not_true (eqb code 0) (and_left (not (eqb code 0)) _ r)

pub refusal_not2 : (code : ℕ) → Refusal code → eqb code 2 ≡ false
refusal_not2 code r = not_true (eqb code 2) (and_left (not (eqb code 2)) _ (and_right (not (eqb code 0)) _ r))

pub refusal_not3 : (code : ℕ) → Refusal code → eqb code 3 ≡ false
refusal_not3 code r = not_true (eqb code 3) (and_right (not (eqb code 2)) _ (and_right (not (eqb code 0)) _ r))

abbrev all_refuse : List Check → Bool
all_refuse [] = true
all_refuse (c ∷ cs) = is_refusal c.code && all_refuse cs

first_refuses : (cs : List Check) → all_refuse cs ≡ true → (code : ℕ) → First cs code → Refusal code
first_refuses [] a code f = absurd f
first_refuses (c ∷ cs) a code (inl (h, e)) = rw e (and_left (is_refusal c.code) (all_refuse cs) a)
first_refuses (c ∷ cs) a code (inr (h, f)) = first_refuses cs (and_right (is_refusal c.code) (all_refuse cs) a) code f

-- ---- What the tests tell

pub or_left : (a b : Bool) → a || b ≡ false → a ≡ false
or_left true b e = e
or_left false b e = refl

pub or_right : (a b : Bool) → a || b ≡ false → b ≡ false
or_right true b e = absurd (true≢false e)
or_right false b e = e

pub not_zero : (n : ℕ) → eqb n 0 ≡ false → 1 ≤ n
not_zero n e = go (ℕ_discrete n 0)
  where
    go : Dec (n ≡ 0) → 1 ≤ n
    go (yes f) = absurd (true≢false (sym (eqb_yes n 0 f) ∙ e))
    go (no f) = omega arith

-- a number that is tested against 0 and against a most
pub in_range : (n most : ℕ) → eqb n 0 || ltb most n ≡ false → (1 ≤ n) × (n ≤ most)
in_range n most e = (not_zero n (or_left (eqb n 0) (ltb most n) e), omega (arith, false_lt (suc most) n (or_right (eqb n 0) (ltb most n) e)))

-- the block that is found has that number
pub where_has : (b : Board) (n : ℕ) → where_is b n < 64 → Has b (where_is b n) n
unfolding where_is
where_has b n h = record {
  inside = h;
  bought = true_le 1 (at b p).share (and_left (is_open (at b p)) (eqb n (at b p).number) t);
  named = sym (eqb_true n (at b p).number (and_right (is_open (at b p)) (eqb n (at b p).number) t));
}
  where
    p : ℕ
    p = where_is b n

    t : is_open (at b p) && eqb n (at b p).number ≡ true
    t = least_true (λ q. is_open (at b q) && eqb n (at b q).number) 64 h

-- a number that is not found
pub where_none : (b : Board) (n : ℕ) → ltb (where_is b n) 64 ≡ false → NoneHas b n
unfolding where_is
where_none b n e q h = true≢false (sym is_t ∙ least_false t 64 q (omega (arith, h.inside, false_lt (suc (least t 64)) 64 e)))
  where
    t : ℕ → Bool
    t i = is_open (at b i) && eqb n (at b i).number

    is_t : t q ≡ true
    is_t = rw (leb_yes 1 (at b q).share h.bought, eqb_yes n (at b q).number (sym h.named))

-- every block of the 64 places is at one of them
pub has_at : (b : Board) (q n : ℕ) → length b.places ≡ 64 → 1 ≤ (at b q).share → (at b q).number ≡ n → Has b q n
has_at b q n len h e = record { inside = go (split 64 q); bought = h; named = e }
  where
    go : (64 ≤ q) ⊎ (q < 64) → q < 64
    go (inr k) = k
    go (inl k) = absurd (omega (arith, ap (λ (x : Place). x.share) (get_or-eq_default b.places free_place {n = q} (omega arith))))

-- a number that is found
pub some_in : (b : Board) (n : ℕ) → none_has b n ≡ false → where_is b n < 64
some_in b n e = true_le (suc (where_is b n)) 64 (not_none (some_has b n) e)
  where
    not_none : (t : Bool) → not t ≡ false → t ≡ true
    not_none true f = refl
    not_none false f = absurd (true≢false f)

pub free_found : (b : Board) → free_at b < 64 → (at b (free_at b)).share ≡ 0
unfolding free_at
free_found b h = eqb_true (at b (free_at b)).share 0 (least_true (λ p. eqb (at b p).share 0) 64 h)

-- ---- What a call that is done has found: each check, failed

pub record CanOpen (b : Board) (o : Opening) : Type 0 where
  pub number : 1 ≤ o.number
  pub share : 1 ≤ o.share
  pub nobody : NoneHas b o.number
  pub inside : free_at b < 64
  pub free : (at b (free_at b)).share ≡ 0
  pub room : used_share b + o.share ≤ 65536

pub record CanRename (b : Board) (p old new : ℕ) : Type 0 where
  pub has : Has b p old
  pub number : 1 ≤ new
  pub nobody : NoneHas b new

pub record CanClose (b : Board) (p n : ℕ) : Type 0 where
  pub has : Has b p n
  pub empty : length (at b p).lane ≡ 0

pub record CanTake (b : Board) (p n : ℕ) (r : Record) : Type 0 where
  pub has : Has b p n
  pub least : 1 ≤ r.bytes
  pub most : r.bytes ≤ b.largest
  pub room : length (at b p).lane < depth (at b p)

can_open : (b : Board) (o : Opening) → Fail (open_checks b o) → CanOpen b o
can_open b o (e4, (e5, (e7, (e8, _)))) = record {
  number = not_zero o.number (or_left (number_outside o.number) (share_outside o.share) e4);
  share = range.0;
  nobody = where_none b o.number e5;
  inside = false_lt 64 (free_at b) e7;
  free = free_found b (false_lt 64 (free_at b) e7);
  room = omega (arith, false_lt (suc (free_share b)) o.share e8, range.0);
}
  where
    range : (1 ≤ o.share) × (o.share ≤ 65536)
    range = in_range o.share 65536 (or_right (number_outside o.number) (share_outside o.share) e4)

can_rename : (b : Board) (old new : ℕ) → Fail (rename_checks b old new) → CanRename b (where_is b old) old new
can_rename b old new (e4, (e6, (e5, _))) = record {
  number = not_zero new e4;
  has = where_has b old (some_in b old e6);
  nobody = where_none b new e5;
}

pub can_close : (b : Board) (n : ℕ) → Fail (close_checks b n) → CanClose b (where_is b n) n
can_close b n (e6, (e10, _)) = record {
  has = where_has b n (some_in b n e6);
  empty = omega (arith, false_lt 1 (length (at b (where_is b n)).lane) e10);
}

can_take : (b : Board) (n : ℕ) (r : Record) → Fail (record_checks b n r) → CanTake b (where_is b n) n r
can_take b n r (e4, (e6, (e9, _))) = record {
  least = range.0;
  most = range.1;
  has = where_has b n (some_in b n e6);
  room = false_lt (depth (at b (where_is b n))) (length (at b (where_is b n)).lane) e9;
}
  where
    range : (1 ≤ r.bytes) × (r.bytes ≤ b.largest)
    range = in_range r.bytes b.largest (or_right (number_outside n) (length_outside b r.bytes) e4)

-- ---- THE CASES OF A CALL, on any board

checked : (b : Board) (checks : List Check) (u : Turn) (P : Turn → Type 0) → all_refuse checks ≡ true → ((code : ℕ) → Refusal code → P (refuse b code))
    → (Fail checks → P u) → P (guarded b checks u)
checked b checks u P a refused = guarded_cases b checks u P (λ code f. refused code (first_refuses checks a code f))

-- the cases of one call: a law of that call alone names no other
pub open_cases : (b : Board) (o : Opening) (P : Turn → Type 0) → ((code : ℕ) → Refusal code → P (refuse b code))
    → (CanOpen b o → P (record { out = done; next = go_on b (free_at b) (opened o) })) → P (step b (open! o))
unfolding step open_block
open_cases b o P refused opens = checked b (open_checks b o) _ P refl refused (λ f. opens (can_open b o f))

pub take_cases : (b : Board) (n : ℕ) (r : Record) (P : Turn → Type 0) → ((code : ℕ) → Refusal code → P (refuse b code))
    → (let p = where_is b n in CanTake b p n r → P (took_at b p r)) → P (step b (record! n r))
unfolding step take_record
take_cases b n r P refused takes = checked b (record_checks b n r) _ P refl refused (λ f. takes (can_take b n r f))

-- the cases of every call but a serve
pub record OtherCases (b : Board) (P : Single → Turn → Type 0) : Type 0 where
  pub refused : (x : Single) (code : ℕ) → Refusal code → P x (refuse b code)
  pub opens : (o : Opening) → CanOpen b o → P (open! o) (record { out = done; next = go_on b (free_at b) (opened o) })
  pub renames : (old new : ℕ) → let p = where_is b old in
      CanRename b p old new → P (rename! old new) (record { out = done; next = go_on b p (renamed new (at b p)) })
  pub closes : (n : ℕ) → let p = where_is b n in CanClose b p n → P (close! n) (record { out = done; next = closed b p })
  pub takes : (n : ℕ) (r : Record) → let p = where_is b n in CanTake b p n r → P (record! n r) (took_at b p r)

pub other_cases : (b : Board) (P : Single → Turn → Type 0) → OtherCases b P → P serve! (serve b) → (x : Single) → P x (step b x)
unfolding step rename_block close_block
other_cases b P cs serves = go
  where
    by : (x : Single) (checks : List Check) (u : Turn) → all_refuse checks ≡ true → (Fail checks → P x u) → P x (guarded b checks u)
    by x checks u a = checked b checks u (P x) a (cs.refused x)

    go : (x : Single) → P x (step b x)
    go (open! o) = open_cases b o (P (open! o)) (cs.refused (open! o)) (cs.opens o)
    go (rename! old new) = by (rename! old new) (rename_checks b old new) _ refl (λ f. cs.renames old new (can_rename b old new f))
    go (close! n) = by (close! n) (close_checks b n) _ refl (λ f. cs.closes n (can_close b n f))
    go (record! n r) = take_cases b n r (P (record! n r)) (cs.refused (record! n r)) (cs.takes n r)
    go serve! = serves

-- a serve is refused: none waits, or the slot would begin too late
pub data Unserved (b : Board) : ℕ → Type 0 where
  nobody : b.slot ≡ none → least_ready b.places ≡ none → Unserved b 1
  late : (r : ℕ) → b.slot ≡ none → least_ready b.places ≡ some r → 2 ^ 62 ≤ max b.clock r → Unserved b 11

unserved_refuses : (b : Board) (code : ℕ) → Unserved b code → Refusal code
unserved_refuses b code (nobody e l) = refl
unserved_refuses b code (late r e l h) = refl

-- no slot is open, and one may begin: r is the least ready time
pub record MayBegin (b : Board) (r : ℕ) : Type 0 where
  pub slot : b.slot ≡ none
  pub least : least_ready b.places ≡ some r
  pub soon : max b.clock r < 2 ^ 62

pub serve_turns : (b : Board) (P : Turn → Type 0) → ((code : ℕ) → Unserved b code → P (refuse b code)) → ((p : ℕ) → b.slot ≡ some p → P (send false b p))
    → ((r : ℕ) → MayBegin b r → P (send true (begin b (max b.clock r)) (chosen b (max b.clock r)))) → P (serve b)
unfolding serve serve_by
serve_turns b P unserved goes_on begins = go b.slot refl (least_ready b.places) refl
  where
    go : (s : Option ℕ) → b.slot ≡ s → (m : Option ℕ) → least_ready b.places ≡ m → P (serve_by b s m)
    go (some p) e m l = goes_on p e
    go none e none l = unserved 1 (nobody e l)
    go none e (some r) l = guarded_cases b (begin_checks (max b.clock r)) _ P stop
        (λ f. begins r (record { slot = e; least = l; soon = false_lt (2 ^ 62) (max b.clock r) f.0 }))
      where
        stop : (code : ℕ) → First (begin_checks (max b.clock r)) code → P (refuse b code)
        stop code (inl (h, c)) = rw c (unserved 11 (late r e l (true_le (2 ^ 62) (max b.clock r) h)))
        stop code (inr (h, f)) = absurd f

-- ---- THE CASES OF A CALL, on a board that is not spoilt

-- the slot is open at p
pub record GoesOn (b : Board) (p : ℕ) : Type 0 where
  pub slot : b.slot ≡ some p
  pub serves : is_serving (at b p).stand ≡ true
  pub inside : p < 64
  pub bought : 1 ≤ (at b p).share
  pub lane : 1 ≤ length (at b p).lane

-- a slot of p begins at t
pub record Begins (b : Board) (r t p : ℕ) : Type 0 where
  pub slot : b.slot ≡ none
  pub least : least_ready b.places ≡ some r
  pub time : t ≡ max b.clock r
  pub soon : t < 2 ^ 62
  pub choice : Chosen b.places b.orders t (lowest b t) p
  pub inside : p < 64
  pub bought : 1 ≤ (at b p).share
  pub lane : 1 ≤ length (at b p).lane

pub least_of : (b : Board) (r : ℕ) → least_ready b.places ≡ some r → LeastIs b.places (some r)
least_of b r e = subst (LeastIs b.places) e (least_is b.places)

-- the cases of a serve
pub record ServeCases (b : Board) (P : Turn → Type 0) : Type 0 where
  pub unserved : (code : ℕ) → Unserved b code → Refusal code → P (refuse b code)
  pub goes_on : (p : ℕ) → GoesOn b p → P (send false b p)
  pub begins : (r t p : ℕ) → Begins b r t p → p ≡ chosen b t → P (send true (begin b t) p)

pub serve_cases : (b : Board) → Tidy b → (P : Turn → Type 0) → ServeCases b P → P (serve b)
unfolding lowest
serve_cases b g P cs = serve_turns b P
    (λ code u. cs.unserved code u (unserved_refuses b code u))
    (λ p e. cs.goes_on p (on p e))
    (λ r m. cs.begins r (max b.clock r) (chosen b (max b.clock r)) (starts r m) refl)
  where
    sh : Shape b.largest b.clock b.places b.orders b.held
    sh = g.shape

    on : (p : ℕ) → b.slot ≡ some p → GoesOn b p
    on p e = record { slot = e; serves = is_s; inside = omega (arith, serving_in b.places p is_s, sh.all64); bought = ok.1; lane = ok.0 }
      where
        is_s : is_serving (at b p).stand ≡ true
        is_s = g.one p ∙ ap (is_at p) e ∙ eqb_yes p p refl

        ok : (1 ≤ length (at b p).lane) × (1 ≤ (at b p).share) × (bytes_charged (front (at b p)) * 65536 ≤ left_of (at b p).stand)
            × (left_of (at b p).stand < 3 * largest_charge b.largest * 65536)
        ok = serving_ok b.largest (at b p).share (at b p).lane (at b p).stand is_s (sh.place_ok p).stand_ok

    starts : (r : ℕ) → MayBegin b r → Begins b r (max b.clock r) (chosen b (max b.clock r))
    starts r m = record {
      slot = m.slot;
      least = m.least;
      time = refl;
      soon = m.soon;
      choice = ch;
      inside = omega (arith, queued_in b.places p ch.is_q, sh.all64);
      bought = ok.1;
      lane = ok.0;
    }
      where
        p : ℕ
        p = chosen b (max b.clock r)

        ch : Chosen b.places b.orders (max b.clock r) (lowest b (max b.clock r)) p
        ch = choose b.places b.orders (max b.clock r) r sh.listed sh.rising (least_of b r m.least) (omega arith)

        ok : (1 ≤ length (at b p).lane) × (1 ≤ (at b p).share)
        ok = queued_ok b.largest (at b p).share (at b p).lane (at b p).stand ch.is_q (sh.place_ok p).stand_ok

-- the cases of every single call
pub record CallCases (b : Board) (P : Single → Turn → Type 0) : Type 0 where
  pub refused : (x : Single) (code : ℕ) → Refusal code → P x (refuse b code)
  pub opens : (o : Opening) → CanOpen b o → P (open! o) (record { out = done; next = go_on b (free_at b) (opened o) })
  pub renames : (p old new : ℕ) → CanRename b p old new → P (rename! old new) (record { out = done; next = go_on b p (renamed new (at b p)) })
  pub closes : (p n : ℕ) → CanClose b p n → P (close! n) (record { out = done; next = closed b p })
  pub takes : (p n : ℕ) (r : Record) → CanTake b p n r → P (record! n r) (took_at b p r)
  pub goes_on : (p : ℕ) → GoesOn b p → P serve! (send false b p)
  pub begins : (r t p : ℕ) → Begins b r t p → p ≡ chosen b t → P serve! (send true (begin b t) p)

pub call_cases : (b : Board) → Tidy b → (P : Single → Turn → Type 0) → CallCases b P → (x : Single) → P x (step b x)
call_cases b g P cs = other_cases b P
    (record {
      refused = cs.refused;
      opens = cs.opens;
      renames = λ old new. cs.renames (where_is b old) old new;
      closes = λ n. cs.closes (where_is b n) n;
      takes = λ n. cs.takes (where_is b n) n;
    })
    (serve_cases b g (P serve!) (record { unserved = λ code u r. cs.refused serve! code r; goes_on = cs.goes_on; begins = cs.begins }))
