-- The counts over a row of calls: they go on fitting the board, stay small, and a credit is that of its slots; by what one call makes of them.
use mathlib.Core.Path.{◌≡◌, refl, sym, ap, subst, ◌∙◌}
use mathlib.Core.Bool.{Bool, true, false, cond, ◌||◌, true≢false, false≢true}
use mathlib.Core.Logic.{◌⊎◌, inl, inr}
use mathlib.Core.List.{List, [], ◌∷◌, ◌++◌}
use Prim.Native.Nat.{ℕ, suc, ◌+◌, ◌*◌, ◌^◌}
use native.Mathlib.Omega.{arith}
use lib.Dec.{ltb, eqb}
use Rattle.base.specs.Sums.{one_if}
use Rattle.base.proofs.Numbers.{leb_yes, true_le}
use Rattle.base.proofs.Tests.{and_left, and_right}
use Rattle.rules.specs.Board.{Board, at, is_open}
use Rattle.rules.specs.Choice.{Sending, Out, refused, done, taken, sent, Turn}
use Rattle.rules.specs.Calls.{Single, step}
use Rattle.rules.specs.Runs.{play}
use Rattle.rules.proofs.Turns.{is_sent}
use Rattle.rules.proofs.Tidy.{Tidy}
use Rattle.rules.proofs.TidyCalls.{tidy_step}
use Rattle.rules.proofs.Frame.{size_step}
use Rattle.accounts.specs.Accounts.{Account, no_account, credit_at, added, with_out, Counts, overfull, counted, count_row, CountsFit}
use Rattle.accounts.specs.Promises.{Small, Exceeds, Stopping}
use Rattle.accounts.proofs.Changes.{rests, closes_at, sends_one}
use Rattle.accounts.proofs.Turns.{fit_small, fits_step, still_on, none_free, open_same, unsent_out}

-- ---- Where the counting stops

stop_keeps : (b : Board) (t : Turn) (c : Counts) → (counted b t c).full ≡ true → (p : ℕ) → (counted b t c).accounts p ≡ c.accounts p
unfolding counted
stop_keeps b t c e p = rw e

stop_where : (b : Board) (o : Out) (c : Counts) → overfull b o c.accounts ≡ true → Exceeds b o c
stop_where b (refused code) c e = absurd (false≢true e)
stop_where b done c e = absurd (false≢true e)
stop_where b (taken t) c e = absurd (false≢true e)
stop_where b (sent s) c e = record {
  sends = s;
  is = refl;
  begins = and_left s.began (ltb (2 ^ 62) ((c.accounts s.place).credit + credit_at b s.place)) e;
  above = true_le (suc (2 ^ 62)) ((c.accounts s.place).credit + credit_at b s.place)
      (and_right s.began (ltb (2 ^ 62) ((c.accounts s.place).credit + credit_at b s.place)) e);
}

pub stopping : (b : Board) (t : Turn) (c : Counts) → Stopping b t c
unfolding counted
stopping b t c = record {
  stops = λ f e. ap (λ (o : Out). c.full || overfull b o c.accounts) e.is
      ∙ rw (f, e.begins, leb_yes (suc (2 ^ 62)) ((c.accounts e.sends.place).credit + credit_at b e.sends.place) e.above);
  nowhere_else = λ f e. stop_where b t.out c (sym (ap (λ (u : Bool). u || overfull b t.out c.accounts) f) ∙ e);
  keeps = stop_keeps b t c;
  stays = λ f. rw f;
}

-- ---- The counts fit, and are small

pub fits_row : (b : Board) (xs : List Single) (c : Counts) → Tidy b → CountsFit b c → CountsFit (play b xs) (count_row b xs c)
unfolding play count_row
fits_row b [] c g h = h
fits_row b (x ∷ xs) c g h = fits_row (step b x).next xs (counted b (step b x) c) (tidy_step b x g) (fits_step b g x c h)

small_step : (b : Board) (x : Single) (c : Counts) → Tidy b → CountsFit b c → ((p : ℕ) → Small (c.accounts p)) → (p : ℕ)
    → Small ((counted b (step b x) c).accounts p)
small_step b x c g h s p = go (counted b (step b x) c).full refl
  where
    go : (t : Bool) → (counted b (step b x) c).full ≡ t → Small ((counted b (step b x) c).accounts p)
    go true e = subst Small (sym (stop_keeps b (step b x) c e p)) (s p)
    go false e = fit_small (step b x).next p ((counted b (step b x) c).accounts p) (fits_step b g x c h e p)

pub small_row : (b : Board) (xs : List Single) (c : Counts) → Tidy b → CountsFit b c → ((p : ℕ) → Small (c.accounts p)) → (p : ℕ)
    → Small ((count_row b xs c).accounts p)
unfolding count_row
small_row b [] c g h s = s
small_row b (x ∷ xs) c g h s =
    small_row (step b x).next xs (counted b (step b x) c) (tidy_step b x g) (fits_step b g x c h) (small_step b x c g h s)

-- ---- An open place through a call that is counted

pub counted_open : (b : Board) (t : Turn) (c : Counts) → (counted b t c).full ≡ false → (p : ℕ) → is_open (at t.next p) ≡ true
    → (counted b t c).accounts p ≡ with_out b t.out p (c.accounts p)
unfolding counted
counted_open b t c e p w = rw (e, w)

-- the credit of its slots
abbrev pub Priced : Board → (p : ℕ) → Account → Type 0
Priced b p a = a.credit ≡ a.slots * credit_at b p

priced_none : (b : Board) (p : ℕ) → Priced b p no_account
priced_none b p = omega arith

priced_same : (b next : Board) (p : ℕ) (a : Account) → next.largest ≡ b.largest → (at next p).share ≡ (at b p).share → Priced b p a → Priced next p a
priced_same b next p a e f h = h ∙ sym (rw (e, f))

priced_added : (b : Board) (p : ℕ) (s : Sending) (a : Account) → Priced b p a → Priced b p (added (credit_at b p) s a)
unfolding added
priced_added b p s a h = go s.began
  where
    go : (t : Bool) → a.credit + cond t (credit_at b p) 0 ≡ (a.slots + one_if t) * credit_at b p
    go true = omega (arith, h)
    go false = omega (arith, h)

priced_out : (b : Board) (o : Out) (p : ℕ) (a : Account) → Priced b p a → Priced b p (with_out b o p a)
priced_out b (refused code) p a h = h
priced_out b done p a h = h
priced_out b (taken t) p a h = h
priced_out b (sent s) p a h = go (eqb p s.place)
  where
    go : (t : Bool) → Priced b p (cond t (added (credit_at b p) s a) a)
    go true = priced_added b p s a h
    go false = h

abbrev pub AllPriced : Board → Counts → Type 0
AllPriced b c = c.full ≡ false → (p : ℕ) → is_open (at b p) ≡ true → Priced b p (c.accounts p)

module _ (b : Board) (x : Single) (g : Tidy b) (p : ℕ) (w : is_open (at (step b x).next p) ≡ true) where
  -- it keeps its share, or it was free and nothing was sent
  abbrev After : Type 0
  After = ((at (step b x).next p).share ≡ (at b p).share) ⊎ ((is_open (at b p) ≡ false) × (is_sent (step b x).out ≡ false))

  open_after : After
  open_after = go (step b x).out refl
    where
      quiet : is_sent (step b x).out ≡ false → (closing was : Bool) → closes_at b x (step b x).out p ≡ closing → is_open (at b p) ≡ was → After
      quiet e true was n k = absurd (true≢false (sym w ∙ (rests b g p x e).gone n))
      quiet e false true n k = inl ((rests b g p x e).share n k)
      quiet e false false n k = inr (k, e)

      go : (o : Out) → (step b x).out ≡ o → After
      go (refused code) e = quiet (ap is_sent e) (closes_at b x (step b x).out p) (is_open (at b p)) refl refl
      go done e = quiet (ap is_sent e) (closes_at b x (step b x).out p) (is_open (at b p)) refl refl
      go (taken t) e = quiet (ap is_sent e) (closes_at b x (step b x).out p) (is_open (at b p)) refl refl
      go (sent s) e = inl ((sends_one b g x s e).share p)

  priced_after : (c : Counts) → c.full ≡ false → CountsFit b c → AllPriced b c → Priced (step b x).next p (with_out b (step b x).out p (c.accounts p))
  priced_after c f h k = go open_after
    where
      a : Account
      a = c.accounts p

      go : After → Priced (step b x).next p (with_out b (step b x).out p (c.accounts p))
      go (inl e) =
          priced_same b (step b x).next p (with_out b (step b x).out p a) (size_step b x) e
          (priced_out b (step b x).out p a (k f p (sym (open_same b (step b x).next p e) ∙ w)))
      go (inr (n, e)) = subst (Priced (step b x).next p) (sym (unsent_out b (step b x).out p a e ∙ none_free b c f h p n)) (priced_none (step b x).next p)

priced_step : (b : Board) (x : Single) (c : Counts) → Tidy b → CountsFit b c → AllPriced b c → AllPriced (step b x).next (counted b (step b x) c)
priced_step b x c g h k e p w =
    subst (Priced (step b x).next p) (sym (counted_open b (step b x) c e p w)) (priced_after b x g p w c (still_on b (step b x) c e).0 h k)

pub priced_row : (b : Board) (xs : List Single) (c : Counts) → Tidy b → CountsFit b c → AllPriced b c → AllPriced (play b xs) (count_row b xs c)
unfolding play count_row
priced_row b [] c g h k = k
priced_row b (x ∷ xs) c g h k =
    priced_row (step b x).next xs (counted b (step b x) c) (tidy_step b x g) (fits_step b g x c h) (priced_step b x c g h k)

-- ---- Two rows, one after the other

pub row_join : (b : Board) (xs ys : List Single) (c : Counts) → count_row b (xs ++ ys) c ≡ count_row (play b xs) ys (count_row b xs c)
unfolding play count_row
row_join b [] ys c = refl
row_join b (x ∷ xs) ys c = row_join (step b x).next xs ys (counted b (step b x) c)
