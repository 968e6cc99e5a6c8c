-- The counts of a place are those of the block that has it, from its opening on, by the number that it has at each call: by induction over the row.
use mathlib.Core.Path.{◌≡◌, refl, sym, ap, subst, ◌∙◌}
use mathlib.Core.Bool.{Bool, true, false, cond, true≢false}
use mathlib.Core.List.{List, [], ◌∷◌, ◌++◌}
use Prim.Native.Nat.{ℕ, ◌+◌}
use native.Mathlib.Omega.{arith}
use native.Mathlib.Decide.{ℕ_discrete}
use lib.Dec.{eqb}
use lib.ListN.{get_or, set}
use lib.Seq.{get_or-set_same}
use Rattle.base.specs.Sums.{sum}
use Rattle.base.proofs.Numbers.{eqb_yes, eqb_no, leb_yes, leb_no}
use Rattle.units.specs.Credit.{credit_of}
use Rattle.rules.specs.Board.{Record, bytes_charged, Place, free_place, Board, at, is_open, Has}
use Rattle.rules.specs.Choice.{Sending, Out, refused, done, taken, sent, Turn, go_on}
use Rattle.rules.specs.Blocks.{Opening, opened, free_at}
use Rattle.rules.specs.Calls.{Single, open!, step, told, code_of}
use Rattle.rules.specs.Runs.{play, answer, number_after, closes, is_for, sent_for, share_of, Story, begins, goes_on, tells, story}
use Rattle.rules.specs.Promises.{in_hand, SendTells}
use Rattle.rules.proofs.Turns.{is_sent, from_place}
use Rattle.rules.proofs.Calls.{in_places}
use Rattle.rules.proofs.Tidy.{Tidy}
use Rattle.rules.proofs.TidyCalls.{tidy_step}
use Rattle.rules.proofs.Cases.{refusal_not0, CanOpen, open_cases}
use Rattle.rules.proofs.Names.{Follows, follows, has_share}
use Rattle.accounts.specs.Accounts.{Account, no_account, got, credit_at, added, with_out, Counts, counted, count_row, CountsFit}
use Rattle.accounts.specs.Promises.{with_call, account_of}
use Rattle.accounts.proofs.Changes.{rests, sends_one}
use Rattle.accounts.proofs.Changes as changes
use Rattle.accounts.proofs.Turns.{fits_step, still_on, none_free, unsent_out, counted_other}
use Rattle.accounts.proofs.Rows.{counted_open}

-- ---- What a call adds to a block's account is what it adds to its place's

with_place : (b : Board) (p n : ℕ) (o : Out) (a : Account) → is_for n (told b o) ≡ from_place p o → share_of b n ≡ (at b p).share
    → with_call n b o a ≡ with_out b o p a
with_place b p n (refused code) a e f = refl
with_place b p n done a e f = refl
with_place b p n (taken t) a e f = refl
with_place b p n (sent s) a e f = rw (e, f)

-- its bytes are those of what is sent of the block
bytes_with : (b : Board) (n : ℕ) (o : Out) (a : Account) → (with_call n b o a).bytes ≡ a.bytes + sum bytes_charged (sent_for n (told b o))
unfolding sum added
bytes_with b n (refused code) a = omega arith
bytes_with b n done a = omega arith
bytes_with b n (taken t) a = omega arith
bytes_with b n (sent s) a = go (eqb n (at b s.place).number)
  where
    go : (t : Bool) → (cond t (added (credit_of b.largest (share_of b n)) s a) a).bytes ≡ a.bytes + sum bytes_charged (cond t (s.front ∷ []) [])
    go true = omega arith
    go false = omega arith

sum_join : (f : Record → ℕ) (l m : List Record) → sum f (l ++ m) ≡ sum f l + sum f m
unfolding sum
sum_join f [] m = omega arith
sum_join f (x ∷ l) m = omega (arith, sum_join f l m)

-- ---- An account that balances goes on balancing

abbrev Balanced : Board → (p : ℕ) → Account → Type 0
Balanced b p a = a.credit ≡ got a + a.lost + in_hand (at b p)

balanced_added : (b next : Board) (p : ℕ) (s : Sending) (a : Account) → p ≡ s.place → SendTells b next s → Balanced b p a
    → Balanced next p (added (credit_at b p) s a)
unfolding added
balanced_added b next p s a e t h = subst (λ (q : ℕ). Balanced b q a → Balanced next q (added (credit_at b q) s a)) (sym e) here h
  where
    here : Balanced b s.place a → Balanced next s.place (added (credit_at b s.place) s a)
    here k = omega (arith, k, t.parts)

module _ (b : Board) (x : Single) (g : Tidy b) (p : ℕ) (a : Account) (h : Balanced b p a) where
  balanced_out : Balanced (step b x).next p (with_out b (step b x).out p a)
  balanced_out = go (step b x).out refl
    where
      quiet : is_sent (step b x).out ≡ false → Balanced (step b x).next p (with_out b (step b x).out p a)
      quiet e = rw (unsent_out b (step b x).out p a e, (rests b g p x e).hand) h

      sends : (s : Sending) → (step b x).out ≡ sent s → Dec (p ≡ s.place) → Balanced (step b x).next p (with_out b (sent s) p a)
      sends s e (yes k) = rw (eqb_yes p s.place k) (balanced_added b (step b x).next p s a k (changes.tells b g x s e) h)
      sends s e (no k) = rw (eqb_no p s.place k, (sends_one b g x s e).else p k) h

      go : (o : Out) → (step b x).out ≡ o → Balanced (step b x).next p (with_out b (step b x).out p a)
      go (refused code) e = quiet (ap is_sent e)
      go done e = quiet (ap is_sent e)
      go (taken t) e = quiet (ap is_sent e)
      go (sent s) e = subst (λ (o : Out). Balanced (step b x).next p (with_out b o p a)) (sym e) (sends s e (ℕ_discrete p s.place))

-- ---- A block from its opening on

-- the story so far of the block at p, its account, and the counts
pub record OwnedAlong (p : ℕ) (s : Story) (b : Board) (a : Account) (c : Counts) : Type 0 where
  pub has : Has b p s.number
  pub balanced : a.credit ≡ got a + a.lost + in_hand (at b p)
  pub bytes : a.bytes ≡ sum bytes_charged s.sent
  pub fits : CountsFit b c
  pub counts : c.full ≡ false → c.accounts p ≡ a

along_step : (p : ℕ) (s : Story) (b : Board) (a : Account) (c : Counts) (x : Single) → Tidy b → closes s.number x (answer b x) ≡ false
    → OwnedAlong p s b a c → OwnedAlong p (goes_on s x (answer b x)) (step b x).next (with_call s.number b (step b x).out a) (counted b (step b x) c)
along_step p s b a c x g n h = record {
  has = stays;
  balanced = subst (Balanced (step b x).next p) (sym place) (balanced_out b x g p a h.balanced);
  bytes =
      bytes_with b s.number (step b x).out a
      ∙ ap (λ (z : ℕ). z + sum bytes_charged (sent_for s.number (answer b x))) h.bytes
      ∙ sym (sum_join bytes_charged s.sent (sent_for s.number (answer b x)));
  fits = fits_step b g x c h.fits;
  counts = λ e. counted_open b (step b x) c e p (leb_yes 1 (at (step b x).next p).share stays.bought)
      ∙ ap (with_out b (step b x).out p) (h.counts (still_on b (step b x) c e).0) ∙ sym place;
}
  where
    f : Follows b p s.number x (step b x)
    f = follows b p s.number g h.has x

    stays : Has (step b x).next p (number_after s.number x (answer b x))
    stays = (f.stays n).0

    place : with_call s.number b (step b x).out a ≡ with_out b (step b x).out p a
    place = with_place b p s.number (step b x).out a f.sent (has_share b p s.number g h.has)

-- a closed story stays closed
shut_story : (s : Story) (b : Board) (xs : List Single) → s.closed ≡ true → (story s b xs).closed ≡ true
unfolding story
shut_story s b [] e = e
shut_story s b (x ∷ xs) e = shut_story (tells s.closed s x (answer b x)) (step b x).next xs (go s.closed e)
  where
    go : (t : Bool) → t ≡ true → (tells t s x (answer b x)).closed ≡ true
    go true f = e
    go false f = absurd (true≢false (sym f))

open_story : (s : Story) (b : Board) (xs : List Single) → (story s b xs).closed ≡ false → s.closed ≡ false
open_story s b xs e = go s.closed refl
  where
    go : (t : Bool) → s.closed ≡ t → t ≡ false
    go true f = absurd (true≢false (sym (shut_story s b xs f) ∙ e))
    go false f = refl

pub along : (p : ℕ) (s : Story) (b : Board) (xs : List Single) (a : Account) (c : Counts) → Tidy b → (story s b xs).closed ≡ false
    → OwnedAlong p s b a c → OwnedAlong p (story s b xs) (play b xs) (account_of s.number b xs a) (count_row b xs c)
unfolding story play account_of count_row
along p s b [] a c g e h = h
along p s b (x ∷ xs) a c g e h =
    subst (λ (z : Story). OwnedAlong p (story z nb xs) (play nb xs) (account_of (number_after s.number x (answer b x)) nb xs a') (count_row nb xs c')) (sym now)
    (along p (goes_on s x (answer b x)) (step b x).next xs a' c' (tidy_step b x g)
    still (along_step p s b a c x g (open_story (goes_on s x (answer b x)) (step b x).next xs still) h))
  where
    nb : Board
    nb = (step b x).next

    a' : Account
    a' = with_call s.number b (step b x).out a

    c' : Counts
    c' = counted b (step b x) c

    now : tells s.closed s x (answer b x) ≡ goes_on s x (answer b x)
    now = ap (λ (t : Bool). tells t s x (answer b x)) (open_story s b (x ∷ xs) e)

    still : (story (goes_on s x (answer b x)) (step b x).next xs).closed ≡ false
    still = sym (ap (λ (z : Story). (story z (step b x).next xs).closed) now) ∙ e

-- ---- The opening

abbrev OpensAt : Board → Opening → Turn → Type 0
OpensAt b o t = code_of (told b t.out) ≡ 0 → Has t.next (free_at b) o.number × (at t.next (free_at b) ≡ opened o) × (is_open (at b (free_at b)) ≡ false)

opens_at : (b : Board) → Tidy b → (o : Opening) → OpensAt b o (step b (open! o))
opens_at b g o = open_cases b o (OpensAt b o) (λ code r e. absurd (true≢false (sym (eqb_yes code 0 e) ∙ refusal_not0 code r))) opens
  where
    opens : CanOpen b o → OpensAt b o (record { out = done; next = go_on b (free_at b) (opened o) })
    opens c e = (
      record { inside = c.inside; bought = rw (ap (λ (x : Place). x.share) here) c.share; named = ap (λ (x : Place). x.number) here },
      here,
      leb_no 1 (at b (free_at b)).share (omega (arith, c.free)),
    )
      where
        here : get_or (set b.places (free_at b) (opened o)) (free_at b) free_place ≡ opened o
        here = get_or-set_same b.places (free_at b) (opened o) free_place (in_places b g.shape (free_at b) c.inside)

pub opens_along : (b : Board) → Tidy b → (o : Opening) → code_of (answer b (open! o)) ≡ 0 → (c : Counts) → CountsFit b c
    → OwnedAlong (free_at b) (begins o.number) (step b (open! o)).next no_account (counted b (step b (open! o)) c)
unfolding sum
opens_along b g o e c h = record {
  has = k.0;
  balanced = omega (arith, ap in_hand k.1);
  bytes = refl;
  fits = fits_step b g (open! o) c h;
  counts = λ f.
      let was : c.full ≡ false = (still_on b (step b (open! o)) c f).0 in
      ap (λ (d : Counts). d.accounts (free_at b)) (counted_other b g (open! o) refl refl c h) ∙ none_free b c was h (free_at b) k.2;
}
  where
    k : Has (step b (open! o)).next (free_at b) o.number × (at (step b (open! o)).next (free_at b) ≡ opened o) × (is_open (at b (free_at b)) ≡ false)
    k = opens_at b g o e
