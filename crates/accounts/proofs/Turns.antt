-- What one call makes of the counts, and that they go on fitting the board: by what the call does to each place.
use mathlib.Core.Path.{◌≡◌, refl, sym, ap, subst, ◌∙◌}
use mathlib.Core.Bool.{Bool, true, false, cond, ◌&&◌, ◌||◌, true≢false}
use Prim.Native.Nat.{ℕ, suc, ◌+◌, ◌^◌, ◌≤◌}
use native.Mathlib.Omega.{arith}
use native.Mathlib.Decide.{ℕ_discrete}
use lib.Dec.{leb, ltb, eqb}
use Rattle.base.specs.Sums.{one_if}
use Rattle.base.proofs.Numbers.{eqb_yes, eqb_no, eqb_true, leb_yes, true_le, false_lt}
use Rattle.base.proofs.Tests.{and_left, and_right}
use Rattle.units.proofs.Credits.{credit_least}
use Rattle.rules.specs.Board.{Board, at, is_open, fresh}
use Rattle.rules.specs.Choice.{Sending, Out, refused, done, taken, sent, Turn, where_is, send}
use Rattle.rules.specs.Calls.{Single, open!, rename!, close!, record!, serve!, step}
use Rattle.rules.specs.Runs.{is_serve}
use Rattle.rules.specs.Promises.{in_hand, SendTells}
use Rattle.rules.proofs.Turns.{is_sent}
use Rattle.rules.proofs.Conserve.{went}
use Rattle.rules.proofs.Shape.{most_pos}
use Rattle.rules.proofs.Run.{all_free}
use Rattle.rules.proofs.Tidy.{Tidy}
use Rattle.rules.proofs.Cases.{or_left, or_right, call_cases}
use Rattle.accounts.specs.Accounts.{Account, no_account, got, credit_at, added, with_out, Counts, no_counts, overfull, counted, account_fits}
use Rattle.accounts.specs.Accounts.{CountsFit}
use Rattle.accounts.specs.Promises.{Small}
use Rattle.accounts.proofs.Changes.{closes_at, none_closed, Rests, rests, OneSent, sends_one, tells, free_hand}

-- ---- An account that fits

-- of an open place
pub record Even (b : Board) (p : ℕ) (a : Account) : Type 0 where
  pub small : a.credit ≤ 2 ^ 62
  pub slots : a.slots ≤ a.credit
  pub even : a.credit ≡ got a + a.lost + in_hand (at b p)

pub even_fits : (b : Board) (p : ℕ) (a : Account) → is_open (at b p) ≡ true → Even b p a → account_fits b p a ≡ true
unfolding account_fits
even_fits b p a w h =
    rw (
      w,
      leb_yes a.credit (2 ^ 62) h.small,
      leb_yes a.slots a.credit h.slots,
      eqb_yes a.credit (got a + a.lost + in_hand (at b p)) h.even,
    )

pub fits_even : (b : Board) (p : ℕ) (a : Account) → is_open (at b p) ≡ true → account_fits b p a ≡ true → Even b p a
unfolding account_fits
fits_even b p a w h =
    let small : Bool = leb a.credit (2 ^ 62) in
    let slots : Bool = leb a.slots a.credit in
    let even : Bool = eqb a.credit (got a + a.lost + in_hand (at b p)) in
    let all : small && (slots && even) ≡ true = rw w at h in
    let rest : slots && even ≡ true = and_right small (slots && even) all in
    record {
      small = true_le a.credit (2 ^ 62) (and_left small (slots && even) all);
      slots = true_le a.slots a.credit (and_left slots even rest);
      even = eqb_true a.credit (got a + a.lost + in_hand (at b p)) (and_right slots even rest);
    }

-- of a free one
pub none_fits : (b : Board) (p : ℕ) → is_open (at b p) ≡ false → account_fits b p no_account ≡ true
unfolding account_fits
none_fits b p w = rw w

same_account : (a c : Account) → a.slots ≡ c.slots → a.credit ≡ c.credit → a.bytes ≡ c.bytes → a.lost ≡ c.lost → a ≡ c
same_account a c e f g h = λ i. record { slots = e i; credit = f i; bytes = g i; lost = h i }

pub fits_none : (b : Board) (p : ℕ) (a : Account) → is_open (at b p) ≡ false → account_fits b p a ≡ true → a ≡ no_account
unfolding account_fits
fits_none b p a w h =
    let slots : Bool = eqb a.slots 0 in
    let credit : Bool = eqb a.credit 0 in
    let bytes : Bool = eqb a.bytes 0 in
    let lost : Bool = eqb a.lost 0 in
    let all : slots && (credit && (bytes && lost)) ≡ true = rw w at h in
    let three : credit && (bytes && lost) ≡ true = and_right slots (credit && (bytes && lost)) all in
    let two : bytes && lost ≡ true = and_right credit (bytes && lost) three in
    same_account a no_account
    (eqb_true a.slots 0 (and_left slots (credit && (bytes && lost)) all))
    (eqb_true a.credit 0 (and_left credit (bytes && lost) three))
    (eqb_true a.bytes 0 (and_left bytes lost two))
    (eqb_true a.lost 0 (and_right bytes lost two))

-- An account that fits is small.
pub fit_small : (b : Board) (p : ℕ) (a : Account) → account_fits b p a ≡ true → Small a
fit_small b p a h = go (is_open (at b p)) refl
  where
    go : (t : Bool) → is_open (at b p) ≡ t → Small a
    go true w =
        let f = fits_even b p a w h in
        record { credit = f.small; slots = f.slots; got = omega (arith, f.even); lost = omega (arith, f.even) }
    go false w = subst Small (sym (fits_none b p a w h)) (record { credit = omega arith; slots = omega arith; got = omega arith; lost = omega arith })

-- ---- Where the counting has stopped, everything stays

pub same_counts : (d c : Counts) → d.full ≡ c.full → ((p : ℕ) → d.accounts p ≡ c.accounts p) → d ≡ c
same_counts d c e f = λ i. record { accounts = λ p. f p i; full = e i }

pub full_stays : (b : Board) (t : Turn) (c : Counts) → c.full ≡ true → counted b t c ≡ c
unfolding counted
full_stays b t c e = same_counts (counted b t c) c (rw e) (λ p. rw e)

-- ---- A call that sends nothing

unsent_full : (b : Board) (o : Out) (accounts : ℕ → Account) → is_sent o ≡ false → overfull b o accounts ≡ false
unsent_full b (refused code) accounts e = refl
unsent_full b done accounts e = refl
unsent_full b (taken t) accounts e = refl
unsent_full b (sent s) accounts e = absurd (true≢false e)

pub unsent_out : (b : Board) (o : Out) (p : ℕ) (a : Account) → is_sent o ≡ false → with_out b o p a ≡ a
unsent_out b (refused code) p a e = refl
unsent_out b done p a e = refl
unsent_out b (taken t) p a e = refl
unsent_out b (sent s) p a e = absurd (true≢false e)

or_false : (t : Bool) → t || false ≡ t
or_false true = refl
or_false false = refl

pub quiet_full : (b : Board) (t : Turn) (c : Counts) → is_sent t.out ≡ false → (counted b t c).full ≡ c.full
unfolding counted
quiet_full b t c e = ap (λ (u : Bool). c.full || u) (unsent_full b t.out c.accounts e) ∙ or_false c.full

-- the accounts, while the counting goes on
quiet_on : (b : Board) (t : Turn) (c : Counts) → is_sent t.out ≡ false → c.full ≡ false → (p : ℕ)
    → (counted b t c).accounts p ≡ cond (is_open (at t.next p)) (c.accounts p) no_account
unfolding counted
quiet_on b t c e f p = rw (f, unsent_full b t.out c.accounts e, unsent_out b t.out p (c.accounts p) e)

-- a free place has no account
pub none_free : (b : Board) (c : Counts) → c.full ≡ false → CountsFit b c → (p : ℕ) → is_open (at b p) ≡ false → c.accounts p ≡ no_account
none_free b c f h p w = fits_none b p (c.accounts p) w (h f p)

pub open_same : (b next : Board) (p : ℕ) → (at next p).share ≡ (at b p).share → is_open (at next p) ≡ is_open (at b p)
open_same b next p e = ap (λ (n : ℕ). ltb 0 n) e

-- only a close takes an account away
quiet_accounts : (b : Board) → Tidy b → (x : Single) → is_sent (step b x).out ≡ false → (c : Counts) → c.full ≡ false → CountsFit b c → (p : ℕ)
    → (counted b (step b x) c).accounts p ≡ cond (closes_at b x (step b x).out p) no_account (c.accounts p)
quiet_accounts b g x e c f h p = quiet_on b (step b x) c e f p ∙ go (closes_at b x (step b x).out p) refl
  where
    r : Rests b x (step b x) p
    r = rests b g p x e

    a : Account
    a = c.accounts p

    -- a place that is free before has none, whatever comes
    none : (t : Bool) → a ≡ no_account → cond t a no_account ≡ a
    none true k = refl
    none false k = sym k

    stays : closes_at b x (step b x).out p ≡ false → (t : Bool) → is_open (at b p) ≡ t → cond (is_open (at (step b x).next p)) a no_account ≡ a
    stays n true w = rw (open_same b (step b x).next p (r.share n w), w)
    stays n false w = none (is_open (at (step b x).next p)) (none_free b c f h p w)

    go : (t : Bool) → closes_at b x (step b x).out p ≡ t → cond (is_open (at (step b x).next p)) a no_account ≡ cond t no_account a
    go true n = rw (r.gone n)
    go false n = stays n (is_open (at b p)) refl

-- A CALL THAT SENDS NOTHING AND CLOSES NOTHING leaves the counts.
pub counted_same : (b : Board) → Tidy b → (x : Single) → is_sent (step b x).out ≡ false → ((p : ℕ) → closes_at b x (step b x).out p ≡ false)
    → (c : Counts) → CountsFit b c → counted b (step b x) c ≡ c
counted_same b g x e n c h = go c.full refl
  where
    go : (t : Bool) → c.full ≡ t → counted b (step b x) c ≡ c
    go true f = full_stays b (step b x) c f
    go false f =
        same_counts (counted b (step b x) c) c (quiet_full b (step b x) c e)
        (λ p. quiet_accounts b g x e c f h p ∙ ap (λ (t : Bool). cond t no_account (c.accounts p)) (n p))

-- only a serve sends
unsent_call : (b : Board) → Tidy b → (x : Single) → is_serve x ≡ false → is_sent (step b x).out ≡ false
unfolding send
unsent_call b g = call_cases b g (λ x u. is_serve x ≡ false → is_sent u.out ≡ false) (record {
  refused = λ x code r e. refl;
  opens = λ o c e. refl;
  renames = λ p old new c e. refl;
  closes = λ p n c e. refl;
  takes = λ p n r c e. refl;
  goes_on = λ p c e. absurd (true≢false e);
  begins = λ r t p c f e. absurd (true≢false e);
})

abbrev pub is_close : Single → Bool
is_close (open! o) = false
is_close (rename! old new) = false
is_close (close! n) = true
is_close (record! n r) = false
is_close serve! = false

none_closes : (b : Board) (x : Single) (o : Out) (p : ℕ) → is_close x ≡ false → closes_at b x o p ≡ false
none_closes b (open! w) o p e = refl
none_closes b (rename! old new) o p e = refl
none_closes b (close! n) o p e = absurd (true≢false e)
none_closes b (record! n r) o p e = refl
none_closes b serve! o p e = refl

-- so do openings, renames and records, done or refused,
pub counted_other : (b : Board) → Tidy b → (x : Single) → is_serve x ≡ false → is_close x ≡ false → (c : Counts) → CountsFit b c
    → counted b (step b x) c ≡ c
counted_other b g x e f = counted_same b g x (unsent_call b g x e) (λ p. none_closes b x (step b x).out p f)

-- every call that is refused,
pub counted_refused : (b : Board) → Tidy b → (x : Single) (code : ℕ) → (step b x).out ≡ refused code → (c : Counts) → CountsFit b c
    → counted b (step b x) c ≡ c
counted_refused b g x code e = counted_same b g x (ap is_sent e) (λ p. ap (λ (o : Out). closes_at b x o p) e ∙ none_closed b x code p)

-- and a turn in which nothing is called.
pub counted_idle : (b : Board) (c : Counts) → CountsFit b c → counted b (record { out = done; next = b }) c ≡ c
counted_idle b c h = go c.full refl
  where
    idle : Turn
    idle = record { out = done; next = b }

    stays : c.full ≡ false → (p : ℕ) (t : Bool) → is_open (at b p) ≡ t → cond t (c.accounts p) no_account ≡ c.accounts p
    stays f p true w = refl
    stays f p false w = sym (none_free b c f h p w)

    go : (t : Bool) → c.full ≡ t → counted b idle c ≡ c
    go true f = full_stays b idle c f
    go false f = same_counts (counted b idle c) c (quiet_full b idle c refl) (λ p. quiet_on b idle c refl f p ∙ stays f p (is_open (at b p)) refl)

-- A CLOSE takes the account of its place away.
pub counted_closed : (b : Board) → Tidy b → (n : ℕ) → (step b (close! n)).out ≡ done → (c : Counts) → c.full ≡ false → CountsFit b c → (p : ℕ)
    → (counted b (step b (close! n)) c).accounts p ≡ cond (eqb p (where_is b n)) no_account (c.accounts p)
counted_closed b g n e c f h p =
    quiet_accounts b g (close! n) (ap is_sent e) c f h p
    ∙ ap (λ (o : Out). cond (went o && eqb p (where_is b n)) no_account (c.accounts p)) e

pub closed_full : (b : Board) (n : ℕ) → (step b (close! n)).out ≡ done → (c : Counts) → (counted b (step b (close! n)) c).full ≡ c.full
closed_full b n e c = quiet_full b (step b (close! n)) c (ap is_sent e)

-- ---- A CALL THAT SENDS adds to the account of its place, unless the counting stops with it.

pub sent_full : (b : Board) (x : Single) (s : Sending) → (step b x).out ≡ sent s → (c : Counts) → c.full ≡ false
    → (counted b (step b x) c).full ≡ overfull b (sent s) c.accounts
unfolding counted
sent_full b x s e c f = rw (f, e)

pub counted_sent : (b : Board) → Tidy b → (x : Single) (s : Sending) → (step b x).out ≡ sent s → (c : Counts) → c.full ≡ false → CountsFit b c → (p : ℕ)
    → (counted b (step b x) c).accounts p
    ≡ cond (overfull b (sent s) c.accounts) (c.accounts p)
    (cond (eqb p s.place) (added (credit_at b s.place) s (c.accounts p)) (c.accounts p))
unfolding counted
counted_sent b g x s e c f h p =
    rw (f, e) (ap (cond (overfull b (sent s) c.accounts) (c.accounts p))
    (ap (λ (t : Bool). cond t (with_out b (sent s) p a) no_account) (open_same b (step b x).next p (o.share p)) ∙ go (ℕ_discrete p s.place)))
  where
    o : OneSent b (step b x).next s
    o = sends_one b g x s e

    a : Account
    a = c.accounts p

    -- the sending place is open; another keeps its account, and a free one has none
    else : (t : Bool) → is_open (at b p) ≡ t → cond t (c.accounts p) no_account ≡ c.accounts p
    else true w = refl
    else false w = sym (none_free b c f h p w)

    go : Dec (p ≡ s.place)
        → cond (is_open (at b p)) (with_out b (sent s) p a) no_account ≡ cond (eqb p s.place) (added (credit_at b s.place) s a) a
    go (yes k) = rw (k, eqb_yes s.place s.place refl, leb_yes 1 (at b s.place).share o.bought)
    go (no k) = rw (eqb_no p s.place k) (else (is_open (at b p)) refl)

-- ---- THE COUNTS GO ON FITTING

-- a slot's credit is at least one part
pub credit_some : (b : Board) → Tidy b → (p : ℕ) → 1 ≤ (at b p).share → 1 ≤ credit_at b p
credit_some b g p h = omega (arith, credit_least b.largest (at b p).share h, most_pos b.largest g.shape.least)

-- what a send adds keeps an account even
even_added : (b next : Board) (s : Sending) (a : Account) → let credit = credit_at b s.place in 1 ≤ credit
    → s.began && ltb (2 ^ 62) (a.credit + credit) ≡ false → SendTells b next s → Even b s.place a → Even next s.place (added credit s a)
unfolding added
even_added b next s a least h t k = go s.began refl
  where
    credit : ℕ
    credit = credit_at b s.place

    go : (u : Bool) → s.began ≡ u → Even next s.place (added credit s a)
    go true e =
        let given = ap (λ (v : Bool). cond v credit 0) e in
        let most = false_lt (suc (2 ^ 62)) (a.credit + credit) (sym (ap (λ (v : Bool). v && ltb (2 ^ 62) (a.credit + credit)) e) ∙ h) in
        record {
          small = omega (arith, given, most);
          slots = omega (arith, given, ap one_if e, k.slots);
          even = omega (arith, k.even, t.parts);
        }
    go false e =
        let given = ap (λ (v : Bool). cond v credit 0) e in
        record {
          small = omega (arith, given, k.small);
          slots = omega (arith, given, ap one_if e, k.slots);
          even = omega (arith, k.even, t.parts);
        }

fits_same : (b next : Board) (p : ℕ) (a : Account) → (at next p).share ≡ (at b p).share → in_hand (at next p) ≡ in_hand (at b p)
    → account_fits next p a ≡ account_fits b p a
unfolding account_fits
fits_same b next p a e f =
    rw (e, f)

-- counts that have not stopped had not stopped before
pub still_on : (b : Board) (t : Turn) (c : Counts) → (counted b t c).full ≡ false → (c.full ≡ false) × (overfull b t.out c.accounts ≡ false)
unfolding counted
still_on b t c k = (or_left c.full (overfull b t.out c.accounts) k, or_right c.full (overfull b t.out c.accounts) k)

module _ (b : Board) (g : Tidy b) (x : Single) (c : Counts) (h : CountsFit b c) where
  abbrev next : Board
  next = (step b x).next

  fits_quiet : is_sent (step b x).out ≡ false → c.full ≡ false → (p : ℕ) → account_fits next p ((counted b (step b x) c).accounts p) ≡ true
  fits_quiet e f p = rw (quiet_accounts b g x e c f h p) (go (closes_at b x (step b x).out p) refl)
    where
      r : Rests b x (step b x) p
      r = rests b g p x e

      -- a place that was free has no account, and nothing in hand
      comes : is_open (at b p) ≡ false → (t : Bool) → is_open (at next p) ≡ t → account_fits next p no_account ≡ true
      comes w true k = even_fits next p no_account k (record { small = omega arith; slots = omega arith; even = omega (arith, r.hand, free_hand b g p w) })
      comes w false k = none_fits next p k

      stays : closes_at b x (step b x).out p ≡ false → (t : Bool) → is_open (at b p) ≡ t → account_fits next p (c.accounts p) ≡ true
      stays n true w = fits_same b next p (c.accounts p) (r.share n w) r.hand ∙ h f p
      stays n false w = rw (none_free b c f h p w) (comes w (is_open (at next p)) refl)

      go : (t : Bool) → closes_at b x (step b x).out p ≡ t → account_fits next p (cond t no_account (c.accounts p)) ≡ true
      go true n = none_fits next p (r.gone n)
      go false n = stays n (is_open (at b p)) refl

  fits_sent : (s : Sending) → (step b x).out ≡ sent s → c.full ≡ false → overfull b (sent s) c.accounts ≡ false
      → (p : ℕ) → account_fits next p ((counted b (step b x) c).accounts p) ≡ true
  fits_sent s e f n p = rw (counted_sent b g x s e c f h p, n) (go (ℕ_discrete p s.place))
    where
      o : OneSent b next s
      o = sends_one b g x s e

      q : ℕ
      q = s.place

      is_o : is_open (at b q) ≡ true
      is_o = leb_yes 1 (at b q).share o.bought

      here : account_fits next q (added (credit_at b q) s (c.accounts q)) ≡ true
      here =
          even_fits next q (added (credit_at b q) s (c.accounts q)) (open_same b next q (o.share q) ∙ is_o)
          (even_added b next s (c.accounts q) (credit_some b g q o.bought) n (tells b g x s e) (fits_even b q (c.accounts q) is_o (h f q)))

      go : Dec (p ≡ s.place) → account_fits next p (cond (eqb p s.place) (added (credit_at b s.place) s (c.accounts p)) (c.accounts p)) ≡ true
      go (yes k) = rw (k, eqb_yes s.place s.place refl) here
      go (no k) = rw (eqb_no p s.place k) (fits_same b next p (c.accounts p) (o.share p) (ap in_hand (o.else p k)) ∙ h f p)

  pub fits_step : CountsFit next (counted b (step b x) c)
  fits_step full = go (step b x).out refl (still_on b (step b x) c full)
    where
      go : (o : Out) → (step b x).out ≡ o → (c.full ≡ false) × (overfull b (step b x).out c.accounts ≡ false)
          → (p : ℕ) → account_fits next p ((counted b (step b x) c).accounts p) ≡ true
      go (refused code) e k = fits_quiet (ap is_sent e) k.0
      go done e k = fits_quiet (ap is_sent e) k.0
      go (taken t) e k = fits_quiet (ap is_sent e) k.0
      go (sent s) e k = fits_sent s e k.0 (sym (ap (λ (o : Out). overfull b o c.accounts) e) ∙ k.1)

pub fits_fresh : (L : ℕ) → CountsFit (fresh L) no_counts
unfolding fresh
fits_fresh L f p = none_fits (fresh L) p (ap is_open (all_free 64 p))
