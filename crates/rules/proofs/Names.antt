-- A block is followed by its number; the laws of calls go by its place. Here the two are tied together.
use mathlib.Core.Path.{◌≡◌, refl, sym, ap, subst, ◌∙◌}
use mathlib.Core.Bool.{Bool, true, false, cond, ◌&&◌, true≢false, false≢true}
use mathlib.Core.Logic.{◌⊎◌, inl, inr, ◌≢◌}
use mathlib.Core.List.{[], ◌∷◌, ◌++◌}
use Prim.Native.Nat.{ℕ, suc, ◌+◌, ◌*◌, ◌-◌, ◌≤◌, ◌<◌}
use native.Mathlib.Omega.{arith}
use native.Mathlib.Decide.{ℕ_discrete}
use lib.Dec.{leb, ltb, eqb}
use lib.ListN.{length, get_or, set, drop, length-set}
use lib.Seq.{get_or-set_same, get_or-set_other}
use Rattle.base.specs.Tests.{least}
use Rattle.base.proofs.Tests.{least_false}
use Rattle.base.proofs.Numbers.{split, leb_yes, eqb_yes, eqb_no, eqb_true, true_le}
use Rattle.rules.specs.Board.{Record, Place, free_place, Board, at, is_open, bytes_charged, no_record, block_class, Has}
use Rattle.rules.specs.Choice.{done, Sending, sending, sent, Turn, refuse, Found, open_at, unknown, found_at, find, by_found, where_is, some_has, go_on, more}
use Rattle.rules.specs.Choice.{joins, joining, taken_in}
use Rattle.rules.specs.Choice.{emptied, short, going, started, ended, send_from, send, begin, chosen, upd, left_after, refused, took_at}
use Rattle.rules.specs.Blocks.{Opening, opened, free_at, renamed, closed}
use Rattle.rules.specs.Calls.{Single, open!, rename!, close!, record!, serve!, step, gives, takes, told}
use Rattle.rules.specs.Runs.{number_after, closes, taken_for, is_for, lane_of, share_of}
use Rattle.rules.proofs.Orders.{pl}
use Rattle.rules.proofs.Turns.{from_place}
use Rattle.rules.proofs.Calls.{set_field}
use Rattle.rules.proofs.Tidy.{Tidy}
use Rattle.rules.proofs.Conserve.{took_one, took_refused}
use Rattle.rules.proofs.Cases.{Refusal, refusal_not0, CanOpen, CanRename, CanClose, CanTake, where_has, call_cases}

-- ---- one number, one place

pub has_where : (b : Board) (p n : ℕ) → Tidy b → Has b p n → where_is b n ≡ p
unfolding where_is
has_where b p n g h = go (split (least t 64) p)
  where
    t : ℕ → Bool
    t q = is_open (at b q) && eqb n (at b q).number

    here : t p ≡ true
    here = rw (leb_yes 1 (at b p).share h.bought, eqb_yes n (at b p).number (sym h.named))

    go : (least t 64 ≤ p) ⊎ (p < least t 64) → least t 64 ≡ p
    go (inl l) =
        let q = least t 64 in
        let w = where_has b n (omega (arith, h.inside)) in
        g.shape.names q p w.bought h.bought (w.named ∙ sym h.named)
    go (inr l) = absurd (true≢false (sym here ∙ least_false t 64 p l))

pub has_find : (b : Board) (p n : ℕ) → Tidy b → Has b p n → find b n ≡ open_at p
has_find b p n g h = rw (has_where b p n g h, leb_yes (suc p) 64 h.inside)

pub find_has : (b : Board) (p n : ℕ) → find b n ≡ open_at p → Has b p n
find_has b p n e = go (some_has b n) refl e
  where
    found : (q : ℕ) → open_at q ≡ open_at p → q ≡ p
    found q f = cc

    lost : unknown ≡ open_at p → ⊥
    lost f = let z : ◌≡◌ {A = ℕ} 0 1 = cc in omega arith

    go : (t : Bool) → some_has b n ≡ t → found_at t (where_is b n) ≡ open_at p → Has b p n
    go true f q = subst (λ (z : ℕ). Has b z n) (found (where_is b n) q) (where_has b n (true_le (suc (where_is b n)) 64 f))
    go false f q = absurd (lost q)

pub has_lane : (b : Board) (p n : ℕ) → Tidy b → Has b p n → lane_of b n ≡ (at b p).lane
has_lane b p n g h = ap (λ (f : Found). by_found f (λ q. (at b q).lane) []) (has_find b p n g h)

pub has_share : (b : Board) (p n : ℕ) → Tidy b → Has b p n → share_of b n ≡ (at b p).share
has_share b p n g h = ap (λ (f : Found). by_found f (λ q. (at b q).share) 0) (has_find b p n g h)

pub same_name : (b : Board) (p n q m : ℕ) → Tidy b → Has b p n → Has b q m → eqb n m ≡ eqb p q
same_name b p n q m g h k = go (ℕ_discrete p q)
  where
    go : Dec (p ≡ q) → eqb n m ≡ eqb p q
    go (yes e) = eqb_yes n m (sym h.named ∙ ap (λ (z : ℕ). (at b z).number) e ∙ k.named) ∙ sym (eqb_yes p q e)
    go (no e) = eqb_no n m (λ f. e (g.shape.names p q h.bought k.bought (h.named ∙ f ∙ sym k.named))) ∙ sym (eqb_no p q e)

-- ---- what no send changes

module _ {A : Type 0} (f : Place → A) (byEmptied : (x : Place) → f (emptied x) ≡ f x) (byShort : (t : ℕ) (x : Place) → f (short t x) ≡ f x)
    (byGoing : (x : Place) → f (going x) ≡ f x) (byStarted : (L : ℕ) (x : Place) → f (started L x) ≡ f x) where
  pub kept_send : (b : Board) (p q : ℕ) → p < length b.places → f (at (send_from b p) q) ≡ f (at b q)
  unfolding send_from ended
  kept_send b p q h = go (leb (length (at b p).lane) 1) (ltb (left_after (at b p)) (bytes_charged (get_or (drop 1 (at b p).lane) 0 no_record) * 65536))
    where
      go : (t u : Bool) → f
          (at (cond t (ended b p (emptied (at b p)) b.orders)
          (cond u (ended b p (short b.clock (at b p)) (upd b.orders (block_class (at b p)) (b.orders (block_class (at b p)) ++ (p ∷ []))))
          (go_on b p (going (at b p))))) q) ≡ f (at b q)
      go true u = set_field f b.places p (emptied (at b p)) h (byEmptied (at b p)) q
      go false true = set_field f b.places p (short b.clock (at b p)) h (byShort b.clock (at b p)) q
      go false false = set_field f b.places p (going (at b p)) h (byGoing (at b p)) q

  pub kept_begin : (b : Board) (t q : ℕ) → chosen b t < length b.places → f (at (begin b t) q) ≡ f (at b q)
  unfolding begin
  kept_begin b t q h = set_field f b.places (chosen b t) (started b.largest (at b (chosen b t))) h (byStarted b.largest (at b (chosen b t))) q

  inside_begin : (b : Board) (t : ℕ) → chosen b t < length b.places → chosen b t < length (begin b t).places
  unfolding begin
  inside_begin b t h = rw (length-set b.places (chosen b t) (started b.largest (at b (chosen b t)))) h

  pub kept_begun : (b : Board) (t q : ℕ) → chosen b t < length b.places → f (at (send_from (begin b t) (chosen b t)) q) ≡ f (at b q)
  kept_begun b t q h = kept_send (begin b t) (chosen b t) q (inside_begin b t h) ∙ kept_begin b t q h

-- ---- the block at p, called n, through one call

pub record Follows (b : Board) (p n : ℕ) (x : Single) (t : Turn) : Type 0 where
  pub stays : closes n x (told b t.out) ≡ false → (Has t.next p (number_after n x (told b t.out))) × ((at t.next p).share ≡ (at b p).share)
  pub ends : closes n x (told b t.out) ≡ true → (length (at b p).lane ≡ 0) × (length (at t.next p).lane ≡ 0) × (from_place p t.out ≡ false)
  pub sent : is_for n (told b t.out) ≡ from_place p t.out
  pub took : taken_for n x (told b t.out) ≡ took_one p b x t.out

-- a refused call changes no number, closes nothing and takes nothing in
module _ (n code : ℕ) (r : eqb code 0 ≡ false) where
  number_refused : (x : Single) → number_after n x (gives code) ≡ n
  number_refused (open! o) = refl
  number_refused (rename! old new) = rw r
  number_refused (close! m) = refl
  number_refused (record! m x) = refl
  number_refused serve! = refl

  closes_refused : (x : Single) → closes n x (gives code) ≡ false
  closes_refused (open! o) = refl
  closes_refused (rename! old new) = refl
  closes_refused (close! m) = rw r
  closes_refused (record! m x) = refl
  closes_refused serve! = refl

  taken_refused : (x : Single) → taken_for n x (gives code) ≡ []
  taken_refused (open! o) = refl
  taken_refused (rename! old new) = refl
  taken_refused (close! m) = refl
  taken_refused (record! m x) = rw r
  taken_refused serve! = refl

module _ (b : Board) (p n : ℕ) (g : Tidy b) (h : Has b p n) where
  inside : p < length b.places
  inside = omega (arith, h.inside, g.shape.all64)

  -- the same place, with the same number and share
  same : (nb : Board) → (at nb p).number ≡ (at b p).number → (at nb p).share ≡ (at b p).share → Has nb p n
  same nb e f = record { inside = h.inside; bought = rw f h.bought; named = e ∙ h.named }

  follow_refused : (x : Single) (code : ℕ) → Refusal code → Follows b p n x (refuse b code)
  follow_refused x code r = record {
    stays = λ _. (rw (number_refused n code (refusal_not0 code r) x) h, refl);
    ends = λ e. absurd (false≢true (sym (closes_refused n code (refusal_not0 code r) x) ∙ e));
    sent = refl;
    took = taken_refused n code (refusal_not0 code r) x ∙ sym (took_refused p b code x);
  }

  follow_open : (o : Opening) → CanOpen b o → Follows b p n (open! o) (record { out = done; next = go_on b (free_at b) (opened o) })
  follow_open o c =
      record {
        stays = λ _. (same _ (ap (λ (x : Place). x.number) else) (ap (λ (x : Place). x.share) else), ap (λ (x : Place). x.share) else);
        ends =
            λ e. absurd (false≢true e);
        sent = refl;
        took = refl;
      }
    where
      else : pl (set b.places (free_at b) (opened o)) p ≡ at b p
      else = get_or-set_other b.places (free_at b) p (opened o) free_place (λ e. omega (arith, h.bought, c.free, ap (λ (z : ℕ). (at b z).share) e))

  follow_rename : (q old new : ℕ) → CanRename b q old new → Follows b p n (rename! old new) (record { out = done; next = go_on b q (renamed new (at b q)) })
  follow_rename q old new c =
      record {
        stays = λ _. (
          rw (same_name b p n q old g h c.has) (go (ℕ_discrete p q)),
          set_field (λ (x : Place). x.share) b.places q (renamed new (at b q)) in_q refl p,
        );
        ends = λ e. absurd (false≢true e);
        sent = refl;
        took = refl;
      }
    where
      in_q : q < length b.places
      in_q = omega (arith, c.has.inside, g.shape.all64)

      nb : Board
      nb = go_on b q (renamed new (at b q))

      share : (at nb p).share ≡ (at b p).share
      share = set_field (λ (x : Place). x.share) b.places q (renamed new (at b q)) in_q refl p

      go : Dec (p ≡ q) → Has nb p (cond (eqb p q) new n)
      go (yes e) =
          rw (eqb_yes p q e) (record {
            inside = h.inside;
            bought = rw share h.bought;
            named =
                ap (λ (z : ℕ). (at nb z).number) e ∙ ap (λ (x : Place). x.number) (get_or-set_same b.places q (renamed new (at b q)) free_place in_q);
          })
      go (no e) = rw (eqb_no p q e) (same nb (ap (λ (x : Place). x.number) (get_or-set_other b.places q p (renamed new (at b q)) free_place e)) share)

  follow_close : (q m : ℕ) → CanClose b q m → Follows b p n (close! m) (record { out = done; next = closed b q })
  unfolding closed
  follow_close q m c = record { stays = stays; ends = ends; sent = refl; took = refl }
    where
      name : eqb n m ≡ eqb p q
      name = same_name b p n q m g h c.has

      stays : eqb n m ≡ false → (Has (closed b q) p n) × ((pl (set b.places q free_place) p).share ≡ (at b p).share)
      stays e = (same (closed b q) (ap (λ (x : Place). x.number) else) (ap (λ (x : Place). x.share) else), ap (λ (x : Place). x.share) else)
        where
          else : pl (set b.places q free_place) p ≡ at b p
          else = get_or-set_other b.places q p free_place free_place (λ f. true≢false (sym (eqb_yes p q f) ∙ sym name ∙ e))

      ends : eqb n m ≡ true → (length (at b p).lane ≡ 0) × (length (pl (set b.places q free_place) p).lane ≡ 0) × (false ≡ false)
      ends e =
          let f = eqb_true p q (sym name ∙ e) in (
            ap (λ (z : ℕ). length (at b z).lane) f ∙ c.empty,
            ap (λ (z : ℕ). length (pl (set b.places q free_place) z).lane) f
                ∙ ap (λ (x : Place). length x.lane) (get_or-set_same b.places q free_place free_place (omega (arith, c.has.inside, g.shape.all64))),
            refl,
          )

  follow_take : (q m : ℕ) (r : Record) → CanTake b q m r → Follows b p n (record! m r) (took_at b q r)
  unfolding taken_in
  follow_take q m r c =
      record {
        stays = λ _. (
          same (taken_in b q r) (keeps (λ x. x.number) (λ y. refl) (λ y. refl)) (keeps (λ x. x.share) (λ y. refl) (λ y. refl)),
          keeps (λ x. x.share) (λ y. refl) (λ y. refl),
        );
        ends = λ e. absurd (false≢true e);
        sent = refl;
        took =
            rw (same_name b p n q m g h c.has, has_where b q m g c.has);
      }
    where
      in_q : q < length b.places
      in_q = omega (arith, c.has.inside, g.shape.all64)

      keeps : (f : Place → ℕ) → ((y : Place) → f (joins b.clock y r) ≡ f y) → ((y : Place) → f (more y r) ≡ f y) → f (at (taken_in b q r) p) ≡ f (at b p)
      keeps f byJoins byMore = go (leb (length (at b q).lane) 0)
        where
          go : (t : Bool) → f (at (cond t (joining b q (joins b.clock (at b q) r)) (go_on b q (more (at b q) r))) p) ≡ f (at b p)
          go true = set_field f b.places q (joins b.clock (at b q) r) in_q (byJoins (at b q)) p
          go false = set_field f b.places q (more (at b q) r) in_q (byMore (at b q)) p

  follow_send : (z : Sending) → let q = z.place in q < 64 → 1 ≤ (at b q).share
      → (nb : Board) → (at nb p).number ≡ (at b p).number → (at nb p).share ≡ (at b p).share
      → Follows b p n serve! (record { out = sent z; next = nb })
  follow_send z i s nb e f =
      let q = z.place in
      record {
        stays = λ _. (same nb e f, f);
        ends = λ e. absurd (false≢true e);
        sent = same_name b p n q (at b q).number g h (record { inside = i; bought = s; named = refl });
        took = refl;
      }

  pub follows : (x : Single) → Follows b p n x (step b x)
  unfolding send
  follows = call_cases b g (Follows b p n) (record {
    refused = follow_refused;
    opens = follow_open;
    renames = follow_rename;
    closes = follow_close;
    takes = follow_take;
    goes_on =
        λ q c. let i : q < length b.places = omega (arith, c.inside, g.shape.all64) in
        follow_send (sending false b q) c.inside c.bought _ (kept_send (λ x. x.number) (λ x. refl) (λ t x. refl) (λ x. refl) (λ L x. refl) b q p i)
        (kept_send (λ x. x.share) (λ x. refl) (λ t x. refl) (λ x. refl) (λ L x. refl) b q p i);
    begins =
        λ r t q c e. let i : chosen b t < length b.places = omega (arith, c.inside, g.shape.all64, e) in
        subst (λ (z : ℕ). Follows b p n serve! (send true (begin b t) z)) (sym e)
        (follow_send (sending true (begin b t) (chosen b t)) (rw (← e) c.inside) (rw (← e) c.bought) _
        (kept_begun (λ x. x.number) (λ x. refl) (λ t x. refl) (λ x. refl) (λ L x. refl) b t p i)
        (kept_begun (λ x. x.share) (λ x. refl) (λ t x. refl) (λ x. refl) (λ L x. refl) b t p i));
  })
