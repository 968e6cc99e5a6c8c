-- What one call does to each place, as far as accounts speak of it: its share and the parts it has in hand, by the cases of the call.
use mathlib.Core.Path.{◌≡◌, refl, sym, ap, subst, ◌∙◌}
use mathlib.Core.Bool.{Bool, true, false, cond, ◌&&◌, true≢false, false≢true}
use mathlib.Core.Logic.{◌⊎◌, inl, inr, ◌≢◌}
use mathlib.Core.List.{[], ◌∷◌, ◌++◌}
use Prim.Native.Nat.{ℕ, ◌*◌, ◌≤◌, ◌<◌}
use native.Mathlib.Omega.{arith}
use lib.Dec.{leb, ltb, eqb}
use lib.ListN.{length, get_or, set, drop}
use lib.Seq.{get_or-set_same, get_or-set_other}
use Rattle.base.proofs.Numbers.{eqb_yes, eqb_true, leb_yes, leb_no, true_le}
use Rattle.rules.specs.Board.{Record, no_record, bytes_charged, Place, free_place, Board, at, is_open, block_class, out}
use Rattle.rules.specs.Choice.{Sending, sending, Out, refused, done, taken, sent, Turn, refuse, upd, go_on, more, joins, joining, taken_in, took_at}
use Rattle.rules.specs.Choice.{left_of, left_after, emptied, short, going, started, ended, send_from, send, begin, chosen, serve, where_is}
use Rattle.rules.specs.Blocks.{Opening, opened, free_at, renamed, closed}
use Rattle.rules.specs.Calls.{Single, open!, rename!, close!, record!, serve!, step}
use Rattle.rules.specs.Spoilt.{is_queued}
use Rattle.rules.specs.Promises.{in_hand, SendTells}
use Rattle.rules.proofs.Turns.{is_sent}
use Rattle.rules.proofs.Conserve.{went}
use Rattle.rules.proofs.Calls.{set_field, in_places, empty_out}
use Rattle.rules.proofs.Tidy.{Tidy}
use Rattle.rules.proofs.Sendings.{sends_tell}
use Rattle.rules.proofs.Names.{kept_send, kept_begun, has_where}
use Rattle.rules.proofs.Cases.{CanOpen, CanRename, CanClose, CanTake, other_cases, call_cases, Refusal}

-- the call frees place p
abbrev pub closes_at : Board → Single → Out → (p : ℕ) → Bool
closes_at b (open! o) u p = false
closes_at b (rename! old new) u p = false
closes_at b (close! n) u p = went u && eqb p (where_is b n)
closes_at b (record! n r) u p = false
closes_at b serve! u p = false

-- ---- A free place

pub free_hand : (b : Board) → Tidy b → (p : ℕ) → is_open (at b p) ≡ false → in_hand (at b p) ≡ 0
free_hand b g p e = go (g.shape.place_ok p).named
  where
    go : (at b p ≡ free_place) ⊎ ((1 ≤ (at b p).number) × (1 ≤ (at b p).share)) → in_hand (at b p) ≡ 0
    go (inl f) = ap in_hand f
    go (inr h) = absurd (true≢false (sym (leb_yes 1 (at b p).share h.1) ∙ e))

-- a place with an empty lane has nothing in hand
empty_hand : (b : Board) → Tidy b → (p : ℕ) → length (at b p).lane ≡ 0 → in_hand (at b p) ≡ 0
empty_hand b g p e =
    let was = empty_out b g.shape p (omega (arith, e)) in
    omega (arith, ap left_of was, (g.shape.place_ok p).clear (ap is_queued was))

-- ---- A call that sends nothing

-- place p through it: only a close frees a place, a block keeps its share, and what a place has in hand stays
pub record Rests (b : Board) (x : Single) (t : Turn) (p : ℕ) : Type 0 where
  pub gone : closes_at b x t.out p ≡ true → is_open (at t.next p) ≡ false
  pub share : closes_at b x t.out p ≡ false → is_open (at b p) ≡ true → (at t.next p).share ≡ (at b p).share
  pub hand : in_hand (at t.next p) ≡ in_hand (at b p)

abbrev RestsBy : Board → (p : ℕ) → Single → Turn → Type 0
RestsBy b p x t = is_sent t.out ≡ false → Rests b x t p

pub none_closed : (b : Board) (x : Single) (code p : ℕ) → closes_at b x (refused code) p ≡ false
none_closed b (open! o) code p = refl
none_closed b (rename! old new) code p = refl
none_closed b (close! n) code p = refl
none_closed b (record! n r) code p = refl
none_closed b serve! code p = refl

module _ (b : Board) (g : Tidy b) (p : ℕ) where
  rests_refused : (x : Single) (code : ℕ) → Refusal code → RestsBy b p x (refuse b code)
  rests_refused x code r _ =
      record { gone = λ e. absurd (false≢true (sym (none_closed b x code p) ∙ e)); share = λ _ _. refl; hand = refl }

  rests_open : (o : Opening) → CanOpen b o → RestsBy b p (open! o) (record { out = done; next = go_on b (free_at b) (opened o) })
  rests_open o can _ = record { gone = λ e. absurd (false≢true e); share = λ _ w. ap (λ (x : Place). x.share) (else w); hand = hand }
    where
      q : ℕ
      q = free_at b

      in_q : q < length b.places
      in_q = in_places b g.shape q can.inside

      else : is_open (at b p) ≡ true → get_or (set b.places q (opened o)) p free_place ≡ at b p
      else w =
          get_or-set_other b.places q p (opened o) free_place
          (λ e. omega (arith, true_le 1 (at b p).share w, can.free, ap (λ (z : ℕ). (at b z).share) e))

      hand : in_hand (get_or (set b.places q (opened o)) p free_place) ≡ in_hand (at b p)
      hand = set_field in_hand b.places q (opened o) in_q (sym (free_hand b g q (leb_no 1 (at b q).share (omega (arith, can.free))))) p

  rests_rename : (q old new : ℕ) → CanRename b q old new → RestsBy b p (rename! old new) (record { out = done; next = go_on b q (renamed new (at b q)) })
  rests_rename q old new can _ =
      let z = renamed new (at b q) in
      let in_q = in_places b g.shape q can.has.inside in
      record {
        gone = λ e. absurd (false≢true e);
        share = λ _ _. set_field (λ x. x.share) b.places q z in_q refl p;
        hand = set_field in_hand b.places q z in_q refl p;
      }

  rests_close : (q n : ℕ) → CanClose b q n → RestsBy b p (close! n) (record { out = done; next = closed b q })
  unfolding closed
  rests_close q n can _ = record {
    gone = λ e. ap is_open (ap (at (closed b q)) (at_q e) ∙ get_or-set_same b.places q free_place free_place in_q);
    share =
        λ e _. ap (λ (x : Place). x.share)
        (get_or-set_other b.places q p free_place free_place (λ f. true≢false (sym (eqb_yes p (where_is b n) (f ∙ sym is)) ∙ e)));
    hand = set_field in_hand b.places q free_place in_q (sym (empty_hand b g q can.empty)) p;
  }
    where
      in_q : q < length b.places
      in_q = in_places b g.shape q can.has.inside

      is : where_is b n ≡ q
      is = has_where b q n g can.has

      at_q : eqb p (where_is b n) ≡ true → p ≡ q
      at_q e = eqb_true p (where_is b n) e ∙ is

  rests_take : (q n : ℕ) (r : Record) → CanTake b q n r → RestsBy b p (record! n r) (took_at b q r)
  unfolding taken_in
  rests_take q n r can _ =
      record { gone = λ e. absurd (false≢true e); share = λ _ _. (go (leb (length (at b q).lane) 0) refl).0; hand = (go (leb (length (at b q).lane) 0) refl).1 }
    where
      in_q : q < length b.places
      in_q = in_places b g.shape q can.has.inside

      kept : (z : Place) → z.share ≡ (at b q).share → in_hand z ≡ in_hand (at b q)
          → ((get_or (set b.places q z) p free_place).share ≡ (at b p).share) × (in_hand (get_or (set b.places q z) p free_place) ≡ in_hand (at b p))
      kept z e f = (set_field (λ x. x.share) b.places q z in_q e p, set_field in_hand b.places q z in_q f p)

      go : (t : Bool) → leb (length (at b q).lane) 0 ≡ t
          → let nb = cond t (joining b q (joins b.clock (at b q) r)) (go_on b q (more (at b q) r)) in
          ((at nb p).share ≡ (at b p).share) × (in_hand (at nb p) ≡ in_hand (at b p))
      go true e =
          let was = empty_out b g.shape q (true_le (length (at b q).lane) 0 e) in
          kept (joins b.clock (at b q) r) refl (omega (arith, ap left_of was))
      go false e = kept (more (at b q) r) refl refl

  pub rests : (x : Single) → is_sent (step b x).out ≡ false → Rests b x (step b x) p
  unfolding send
  rests = call_cases b g (RestsBy b p) (record {
    refused = rests_refused;
    opens = rests_open;
    renames = rests_rename;
    closes = rests_close;
    takes = rests_take;
    goes_on = λ q c e. absurd (true≢false e);
    begins = λ r t q c f e. absurd (true≢false e);
  })

-- ---- A call that sends

-- a send changes no other place
else_send : (b : Board) (p q : ℕ) → q ≢ p → at (send_from b p) q ≡ at b q
unfolding send_from ended
else_send b p q ne = go (leb (length (at b p).lane) 1) (ltb (left_after (at b p)) (bytes_charged (get_or (drop 1 (at b p).lane) 0 no_record) * 65536))
  where
    else : (x : Place) → get_or (set b.places p x) q free_place ≡ at b q
    else x = get_or-set_other b.places p q x free_place ne

    go : (t u : Bool) → at
        (cond t (ended b p (emptied (at b p)) b.orders)
        (cond u (ended b p (short b.clock (at b p)) (upd b.orders (block_class (at b p)) (b.orders (block_class (at b p)) ++ (p ∷ []))))
        (go_on b p (going (at b p))))) q ≡ at b q
    go true u = else (emptied (at b p))
    go false true = else (short b.clock (at b p))
    go false false = else (going (at b p))

else_begun : (b : Board) (t q : ℕ) → q ≢ chosen b t → at (send_from (begin b t) (chosen b t)) q ≡ at b q
unfolding begin
else_begun b t q ne =
    else_send (begin b t) (chosen b t) q ne
    ∙ get_or-set_other b.places (chosen b t) q (started b.largest (at b (chosen b t))) free_place ne

-- it sends from an open place, changes no share, and no other place's parts
pub record OneSent (b next : Board) (s : Sending) : Type 0 where
  pub inside : s.place < 64
  pub bought : 1 ≤ (at b s.place).share
  pub share : (p : ℕ) → (at next p).share ≡ (at b p).share
  pub else : (p : ℕ) → p ≢ s.place → at next p ≡ at b p

abbrev SendsBy : Board → Board → Out → Type 0
SendsBy b next (refused code) = Unit {0}
SendsBy b next done = Unit {0}
SendsBy b next (taken a) = Unit {0}
SendsBy b next (sent s) = OneSent b next s

sends_by : (b : Board) → Tidy b → (x : Single) → SendsBy b (step b x).next (step b x).out
unfolding send
sends_by b g = call_cases b g (λ x u. SendsBy b u.next u.out) (record {
  refused = λ x code r. tt;
  opens = λ o c. tt;
  renames = λ p old new c. tt;
  closes = λ p n c. tt;
  takes = λ p n r c. tt;
  goes_on = λ q c. record {
    inside = c.inside;
    bought = c.bought;
    share = λ p. kept_send (λ x. x.share) (λ x. refl) (λ t x. refl) (λ x. refl) (λ L x. refl) b q p (omega (arith, c.inside, g.shape.all64));
    else = λ p. else_send b q p;
  };
  begins = λ r t q c e. subst (λ (z : ℕ). OneSent b (send_from (begin b t) z) (sending true (begin b t) z)) (sym e) (record {
    inside = rw (← e) c.inside;
    bought = rw (← e) c.bought;
    share = λ p. kept_begun (λ x. x.share) (λ x. refl) (λ t x. refl) (λ x. refl) (λ L x. refl) b t p (omega (arith, c.inside, g.shape.all64, e));
    else = λ p. else_begun b t p;
  });
})

pub sends_one : (b : Board) → Tidy b → (x : Single) (s : Sending) → (step b x).out ≡ sent s → OneSent b (step b x).next s
sends_one b g x s e = subst (SendsBy b (step b x).next) e (sends_by b g x)

-- only a serve sends
abbrev SendTold : Board → Single → Turn → Type 0
SendTold b x u = (s : Sending) → u.out ≡ sent s → SendTells b u.next s

unsent : (o : Out) → is_sent o ≡ false → (s : Sending) → o ≡ sent s → ⊥
unsent o e s f = false≢true (sym e ∙ ap is_sent f)

pub tells : (b : Board) → Tidy b → (x : Single) (s : Sending) → (step b x).out ≡ sent s → SendTells b (step b x).next s
tells b g x = other_cases b (SendTold b) (record {
  refused = λ x code r s e. absurd (unsent (refused code) refl s e);
  opens = λ o c s e. absurd (unsent done refl s e);
  renames = λ old new c s e. absurd (unsent done refl s e);
  closes = λ n c s e. absurd (unsent done refl s e);
  takes = λ n r c s e. absurd (unsent (took_at b (where_is b n) r).out refl s e);
}) (sends_tell b g) x
