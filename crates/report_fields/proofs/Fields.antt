-- What a field changes of the counts in memory is what the report's definition counts: by what its call comes to.
use mathlib.Core.Path.{◌≡◌, refl, sym, ap, ap₂, subst, ◌∙◌}
use mathlib.Core.Bool.{Bool, true, false, cond, true≢false}
use mathlib.Core.Logic.{◌⊎◌, inl, inr}
use Prim.Native.Nat.{ℕ, ◌^◌, ◌<◌}
use Rattle.std.specs.Prelude.{Option, Some, None, is_some, IfSome, Ok, Err}
use Rattle.numbers.specs.declared.refusal.Refusal.{Refusal as Refusal! }
use native.Mathlib.Omega.{arith}
use lib.Dec.{eqb}
use lib.ListN.{get_or}
use borrow.Author.Tests.{eq-eqb, lt-ltb}
use Rattle.units.specs.Credit.{framing, charged, largest_charge, credit_of}
use Rattle.units.proofs.Credits.{credit_under}
use Rattle.rules.specs.Board
use Rattle.rules.specs.Board.{at, bytes_charged}
use Rattle.rules.specs.Choice.{Sending, Out, refused, done, sent, Turn, refuse, send, where_is}
use Rattle.rules.specs.Blocks.{meant}
use Rattle.rules.specs.Calls.{Single, open!, rename!, close!, record!, serve!, step, told, code_of}
use Rattle.rules.specs.Promises.{in_hand}
use Rattle.rules.proofs.Frame.{size_step}
use Rattle.rules.proofs.Shape.{most_pos}
use Rattle.rules.proofs.Tidy.{Tidy}
use Rattle.rules.proofs.Cases.{Refusal, refusal_not0, other_cases, serve_cases}
use Rattle.accounts.specs.Accounts.{credit_at, Counts, counted, CountsFit}
use Rattle.accounts.proofs.Changes.{OneSent, sends_one, tells}
use Rattle.accounts.proofs.Turns.{fit_small, full_stays, counted_other, counted_refused, counted_idle, counted_closed, closed_full, sent_full, counted_sent}
use Rattle.accounts.proofs.Turns.{fits_step}
use Rattle.log_bytes.specs.declared.Event.{Event}
use Rattle.log_bytes.specs.declared.Event.TheVariants.{Largest, Open, Close, Rename, Arrive, Serve, Passed}
use Rattle.log_bytes.specs.Format.{is_l}
use Rattle.log_bytes.proofs.Fields.{differ}
use Rattle.listing_rules.specs.Events.{turn_of}
use Rattle.report_rules.specs.Report.{Reporting, after_turn, field_counted}
use Rattle.board.specs.declared.Board as struct
use Rattle.board.specs.Reading.{view}
use Rattle.board.specs.Memory.{Holding, numbers_of}
use Rattle.board.specs.Leaving.{Known}
use Rattle.board.proofs.Sound.{fit_view}
use Rattle.finding.specs.Finding.{found_in, found_at}
use Rattle.finding.proofs.Finding.{found_is}
use Rattle.serving.specs.declared.Served.{Served}
use Rattle.serving.specs.Serving.{Step, step_of, step_in}
use Rattle.events.specs.Events.{told_by, SendSeen, Acted, step_of_act, serves}
use Rattle.counting.specs.Counting.{Tallies, TalliesSized, account_now, counts_now}
use Rattle.counting.specs.Steps.{Tallied, tallied, sent_in}
use Rattle.counting.proofs.Counting.{sized_sent, sized_closed, sent_counts, sent_stops, closed_counts}
use Rattle.counting.proofs.Fitting.{hand_under, hand_at, hands_small}
use Rattle.report_fields.specs.Fields.{Ledger, reads, KnownLedger, FieldCounted}
use Rattle.report_fields.specs.Steps.{closing_place, closed_in, step_credit, field_in, counted_in, SendCounts}
use Rattle.report_fields.proofs.Steps.{serve_is, counted_by, refused_by}

-- ---- What a close and a serve come to

abbrev RefusedTurn : Turn → Type 0
RefusedTurn t = (code : ℕ) × ((t.out ≡ refused code) × (eqb code 0 ≡ false))

abbrev Comes : Board.Board → Single → Turn → Type 0
Comes b (open! o) t = Unit {0}
Comes b (rename! old new) t = Unit {0}
Comes b (close! n) t = RefusedTurn t ⊎ ((t.out ≡ done) × (where_is b n < 64))
Comes b (record! n r) t = Unit {0}
Comes b serve! t = RefusedTurn t ⊎ ((s : Sending) × (t.out ≡ sent s))

comes_refused : (b : Board.Board) (x : Single) (code : ℕ) → Refusal code → Comes b x (refuse b code)
comes_refused b (open! o) code r = tt
comes_refused b (rename! old new) code r = tt
comes_refused b (close! n) code r = inl (code, (refl, refusal_not0 code r))
comes_refused b (record! n r') code r = tt
comes_refused b serve! code r = inl (code, (refl, refusal_not0 code r))

comes_sent : (b : Board.Board) (began : Bool) (m : Board.Board) (p : ℕ) → Comes b serve! (send began m p)
unfolding send
comes_sent b began m p = inr (_, refl)

comes : (b : Board.Board) → Tidy b → (x : Single) → Comes b x (step b x)
comes b g =
    other_cases b (Comes b)
    (record {
      refused = comes_refused b;
      opens = λ o c. tt;
      renames = λ old new c. tt;
      closes = λ n c. inr (refl, c.has.inside);
      takes = λ n r c. tt;
    })
    (serve_cases b g (Comes b serve!)
    (record {
      unserved = λ code u r. inl (code, (refl, refusal_not0 code r));
      goes_on = λ p h. comes_sent b false b p;
      begins = λ r t p h e. comes_sent b true _ p;
    }))

-- ---- A field that is not L is counted by its turn

pub counted_turn : (r : Reporting) (e : Event) → is_l e ≡ false → field_counted r e ≡ after_turn r (turn_of r.board e)
counted_turn r (Largest l) k = differ k
counted_turn r (Open o) k = refl
counted_turn r (Close block) k = refl
counted_turn r (Rename old new) k = refl
counted_turn r (Arrive block number bytes) k = refl
counted_turn r Serve k = refl
counted_turn r Passed k = refl

-- and the counts go on fitting
fits_turn : (b : Board.Board) → Tidy b → (c : Counts) → CountsFit b c → (e : Event)
    → CountsFit (turn_of b e).next (counted b (turn_of b e) c)
fits_turn b g c h (Largest l) = subst (CountsFit b) (sym (counted_idle b c h)) h
fits_turn b g c h (Open o) = fits_step b g (open! (meant o)) c h
fits_turn b g c h (Close block) = fits_step b g (close! block) c h
fits_turn b g c h (Rename old new) = fits_step b g (rename! old new) c h
fits_turn b g c h (Arrive block number bytes) = fits_step b g (record! block (record { number = number; bytes = bytes })) c h
fits_turn b g c h Serve = fits_step b g serve! c h
fits_turn b g c h Passed = subst (CountsFit b) (sym (counted_idle b c h)) h

-- ---- L stays

size_turn : (b : Board.Board) (e : Event) → (turn_of b e).next.largest ≡ b.largest
size_turn b (Largest l) = refl
size_turn b (Open o) = size_step b (open! (meant o))
size_turn b (Close block) = size_step b (close! block)
size_turn b (Rename old new) = size_step b (rename! old new)
size_turn b (Arrive block number bytes) = size_step b (record! block (record { number = number; bytes = bytes }))
size_turn b Serve = size_step b serve!
size_turn b Passed = refl

-- ---- On a board in memory

module _ (h : Holding) (known : Known h.board h.ids h.lens) where
  abbrev m : Board.Board
  m = view h.board h.ids h.lens

  tidy : Tidy m
  tidy = (fit_view h.board h.ids h.lens known.sound).tidy

  largest_is : m.largest ≡ h.board.largest
  unfolding view
  largest_is = refl

  -- the place that is found is the one that the rules close
  closing_is : (block : ℕ) → where_is m block < 64 → closing_place h.board.numbers (Close block) ≡ Some (where_is m block)
  closing_is block l =
      ap (λ (b : struct.Board). found_in b.numbers block) (sym known.sound.spells) ∙ found_is m tidy block
      ∙ ap (λ (t : Bool). found_at t (where_is m block)) (lt-ltb (where_is m block) 64 l)

  module _ (t : Tallies) (sized : TalliesSized t) (n : Holding) (r : Step) where
    -- what is counted of a step
    abbrev takes : Event → (full : Bool) → Step → Tallied
    takes e full s = field_in e (closing_place h.board.numbers e) (step_credit h.board.largest n.board.shares s) s full t

    abbrev step_by : Out → Step
    step_by o = step_of (code_of (told m o)) (told_by o) (numbers_of n.board)

    abbrev Counts! : Event → (full : Bool) → Tallied → Type 0
    Counts! e full x = counts_now x.tallies x.stops ≡ counted m (turn_of m e) (counts_now t full)

    -- nothing is taken from a refusal
    refused_takes : (e : Event) (code : ℕ) → (turn_of m e).out ≡ refused code → eqb code 0 ≡ false → Acted h e n r
        → takes e false r ≡ tallied false t
    unfolding field_in
    refused_takes e code o z a = ap (takes e false) (a.tells ∙ ap step_by o) ∙ rw z

    -- nor from a field that is neither a close nor a serve
    other_takes : (x : Tallied) → x ≡ tallied false t → (u : Bool) → cond u x (tallied false t) ≡ tallied false t
    other_takes x e true = e
    other_takes x e false = refl

    module _ (fits : CountsFit m (counts_now t false)) where
      as_before : (e : Event) (x : Tallied) → x ≡ tallied false t → counted m (turn_of m e) (counts_now t false) ≡ counts_now t false
          → Counts! e false x
      as_before e x q w = ap (λ (y : Tallied). counts_now y.tallies y.stops) q ∙ sym w

      closes : (block : ℕ) → Acted h (Close block) n r → Counts! (Close block) false (takes (Close block) false r)
      unfolding field_in
      closes block a = go (comes m tidy (close! block))
        where
          go : Comes m (close! block) (step m (close! block)) → Counts! (Close block) false (takes (Close block) false r)
          go (inl (code, (o, z))) =
              as_before (Close block) _ (refused_takes (Close block) code o z a) (counted_refused m tidy (close! block) code o (counts_now t false) fits)
          go (inr (o, l)) =
              ap (λ (y : Tallied). counts_now y.tallies y.stops) (gone o ∙ ap (λ (p : Option ℕ). tallied false (closed_in p t)) (closing_is block l))
              ∙ closed_counts (where_is m block) t false sized l
              ∙ (λ i. record {
                accounts = λ p. sym (counted_closed m tidy block o (counts_now t false) refl fits p) i;
                full = sym (closed_full m block o (counts_now t false)) i;
              })
            where
              gone : (step m (close! block)).out ≡ done
                  → takes (Close block) false r ≡ tallied false (closed_in (closing_place h.board.numbers (Close block)) t)
              gone o = ap (takes (Close block) false) (a.tells ∙ ap step_by o)

      -- the credit that is counted is that of a slot of the block
      credit_is : (s : Sending) → SendSeen m s n → step_credit h.board.largest n.board.shares (step_by (sent s)) ≡ credit_at m s.place
      credit_is s w = ap₂ credit_of (sym largest_is) w.share

      counts_serve : Acted h Serve n r → Counts! Serve false (takes Serve false r)
      unfolding field_in
      counts_serve a = go (comes m tidy serve!)
        where
          go : Comes m serve! (step m serve!) → Counts! Serve false (takes Serve false r)
          go (inl (code, (o, z))) = as_before Serve _ (refused_takes Serve code o z a) (counted_refused m tidy serve! code o (counts_now t false) fits)
          go (inr (s, o)) =
              ap (λ (y : Tallied). counts_now y.tallies y.stops) (one ∙ ap taken! (credit_is s (a.sends s o)))
              ∙ sent_counts s (credit_at m s.place) t _ sized (a.sends s o).place
              ∙ (λ i. record {
                accounts = λ p. sym (counted_sent m tidy serve! s o (counts_now t false) refl fits p) i;
                full = (sent_stops s.place s.began (bytes_charged s.front) s.lost (credit_at m s.place) t
                    ∙ sym (sent_full m serve! s o (counts_now t false) refl)) i;
              })
            where
              taken! : ℕ → Tallied
              taken! credit = sent_in s.place s.began (bytes_charged s.front) s.lost credit t

              one : takes Serve false r ≡ taken! (step_credit h.board.largest n.board.shares (step_by (sent s)))
              one = ap (takes Serve false) (a.tells ∙ ap step_by o)

    counts_by : (full : Bool) → CountsFit m (counts_now t full) → (e : Event) → Acted h e n r → Counts! e full (takes e full r)
    unfolding field_in
    counts_by true fits e a = sym (full_stays m (turn_of m e) (counts_now t true) refl)
    counts_by false fits (Largest l) a = as_before fits (Largest l) _ (other_takes _ refl (eqb r.code 0)) (counted_idle m (counts_now t false) fits)
    counts_by false fits (Open o) a =
        as_before fits (Open o) _ (other_takes _ refl (eqb r.code 0)) (counted_other m tidy (open! (meant o)) refl refl (counts_now t false) fits)
    counts_by false fits (Close block) a = closes fits block a
    counts_by false fits (Rename old new) a =
        as_before fits (Rename old new) _ (other_takes _ refl (eqb r.code 0)) (counted_other m tidy (rename! old new) refl refl (counts_now t false) fits)
    counts_by false fits (Arrive block number bytes) a =
        as_before fits (Arrive block number bytes) _ (other_takes _ refl (eqb r.code 0))
        (counted_other m tidy (record! block (record { number = number; bytes = bytes })) refl refl (counts_now t false) fits)
    counts_by false fits Serve a = counts_serve fits a
    counts_by false fits Passed a = as_before fits Passed _ (other_takes _ refl (eqb r.code 0)) (counted_idle m (counts_now t false) fits)

    -- the lists keep their lengths
    sized_done : (u : Bool) (x : Tallied) → TalliesSized x.tallies → TalliesSized (cond u x (tallied false t)).tallies
    sized_done true x z = z
    sized_done false x z = sized

    sized_closing : (closing : Option ℕ) → TalliesSized (closed_in closing t)
    sized_closing None = sized
    sized_closing (Some p) = sized_closed p t sized

    sized_by : (full : Bool) (e : Event) → TalliesSized (takes e full r).tallies
    unfolding field_in
    sized_by true e = sized
    sized_by false (Largest l) = sized_done (eqb r.code 0) _ sized
    sized_by false (Open o) = sized_done (eqb r.code 0) _ sized
    sized_by false (Close block) = sized_done (eqb r.code 0) _ (sized_closing (closing_place h.board.numbers (Close block)))
    sized_by false (Rename old new) = sized_done (eqb r.code 0) _ sized
    sized_by false (Arrive block number bytes) = sized_done (eqb r.code 0) _ sized
    sized_by false Serve = sized_done (eqb r.code 0) _ (sized_sent _ _ _ _ _ t sized)
    sized_by false Passed = sized_done (eqb r.code 0) _ sized

    -- ---- what counting asks

    not_refused : (e : Event) (code : ℕ) → (turn_of m e).out ≡ refused code → eqb code 0 ≡ false → Acted h e n r → r.code ≡ 0 → ⊥
    not_refused e code o z a q =
        true≢false (sym (eq-eqb code 0 (sym (ap (λ (s : Step). s.code) (a.tells ∙ ap step_by o)) ∙ q)) ∙ z)

    module _ (fits : CountsFit m (counts_now t false)) (a : Acted h Serve n r) where
      -- a send is small enough to be counted
      send_small : (s : Sending) → (step m serve!).out ≡ sent s → SendCounts h.board.largest n.board.shares (step_by (sent s)) t
      unfolding largest_charge charged framing
      send_small s o = record {
        counts = record {
          inside = w.place;
          before = fit_small m s.place (account_now t s.place) (fits refl s.place);
          most_bytes = omega (arith, w.small);
          most_lost = omega (arith, (tells m tidy serve! s o).parts, hand, credit_below s.began);
          most_credit = omega (arith, credit, ap₂ credit_of (sym largest_is) w.share);
        };
        low = omega (arith, w.share, one.bought);
        high = omega (arith, w.share, (tidy.shape.place_ok s.place).most);
        most = omega (arith, tidy.shape.most, largest_is);
      }
        where
          w : SendSeen m s n
          w = a.sends s o

          one : OneSent m (step m serve!).next s
          one = sends_one m tidy serve! s o

          hand : in_hand (at m s.place) < 2 ^ 33
          hand =
              rw (sym (hand_at h.board h.ids h.lens known s.place))
              (hand_under s.place h.board.slot h.board.left.0 (get_or h.board.deficits s.place 0)
              (hands_small h.board h.ids h.lens known s.place))

          credit : credit_at m s.place < 2 ^ 33
          credit =
              omega (
                arith,
                credit_under m.largest (at m s.place).share (tidy.shape.place_ok s.place).most
                    (most_pos m.largest tidy.shape.least),
                tidy.shape.most,
              )

          credit_below : (t : Bool) → cond t (credit_at m s.place) 0 < 2 ^ 33
          credit_below true = credit
          credit_below false = omega arith

      send_counts : r.code ≡ 0 → SendCounts h.board.largest n.board.shares r t
      send_counts q = go (comes m tidy serve!)
        where
          go : Comes m serve! (step m serve!) → SendCounts h.board.largest n.board.shares r t
          go (inl (code, (o, z))) = absurd (not_refused Serve code o z a q)
          go (inr (s, o)) =
              subst (λ (x : Step). SendCounts h.board.largest n.board.shares x t) (sym (a.tells ∙ ap step_by o)) (send_small s o)

-- ---- The law of one field

largest_stays : (h : Holding) (e : Event) (n : Holding) (r : Step) → Acted h e n r → n.board.largest ≡ h.board.largest
unfolding view
largest_stays h e n r a = ap (λ (b : Board.Board). b.largest) a.next ∙ size_turn (view h.board h.ids h.lens) e

-- a record that was sent is small enough to be counted
pub can_count : (l : Ledger) → KnownLedger l → (e : Event) (n : Holding) (some : Option Served) → is_some some ≡ serves e
    → Acted l.holds e n (step_of_act (Ok some) (numbers_of n.board)) → l.full ≡ false
    → IfSome some (λ x. SendCounts n.board.largest n.board.shares (step_in (Ok x) (numbers_of n.board)) l.tallies)
can_count l k e n None is a f = tt
can_count l k e n (Some x) is a f =
    subst (λ (largest : ℕ). SendCounts largest n.board.shares (step_in (Ok x) (numbers_of n.board)) l.tallies)
    (sym (largest_stays l.holds e n (step_in (Ok x) (numbers_of n.board)) a))
    (send_counts l.holds k.good l.tallies k.sized n (step_in (Ok x) (numbers_of n.board))
    (subst (λ (t : Bool). CountsFit (reads l).board (counts_now l.tallies t)) f k.fits)
    (subst (λ (v : Event). Acted l.holds v n (step_in (Ok x) (numbers_of n.board))) (serve_is e (sym is)) a) refl)

-- what is counted of a field leaves good counts, which read as the report's definition says
module _ (l : Ledger) (k : KnownLedger l) (e : Event) (late : is_l e ≡ false) (n : Holding) (r : Step) (a : Acted l.holds e n r) where
  field_counted_lem : (x : Tallied)
      → x ≡ field_in e (closing_place l.holds.board.numbers e) (step_credit l.holds.board.largest n.board.shares r) r l.full l.tallies
      → FieldCounted l e (record { holds = n; tallies = x.tallies; full = x.stops })
  field_counted_lem x x-is = record {
    good = record {
      good = a.good;
      fits =
          subst (λ (b : Board.Board). CountsFit b (counts_now x.tallies x.stops)) (sym a.next)
          (subst (CountsFit (turn_of (reads l).board e).next) (sym counts_is)
          (fits_turn (reads l).board (tidy l.holds k.good) (reads l).counts k.fits e));
      sized =
          subst (λ (y : Tallied). TalliesSized y.tallies) (sym x-is) (sized_by l.holds k.good l.tallies k.sized n r l.full e);
    };
    next = (λ i. record { board = a.next i; counts = counts_is i }) ∙ sym (counted_turn (reads l) e late);
  }
    where
      counts_is : counts_now x.tallies x.stops ≡ counted (reads l).board (turn_of (reads l).board e) (reads l).counts
      counts_is =
          ap (λ (y : Tallied). counts_now y.tallies y.stops) x-is
          ∙ counts_by l.holds k.good l.tallies k.sized n r l.full k.fits e a

module _ (l : Ledger) (k : KnownLedger l) (e : Event) (late : is_l e ≡ false) (n : Holding) where
  -- of a field that is done
  pub done_counted : (some : Option Served) → is_some some ≡ serves e → Acted l.holds e n (step_of_act (Ok some) (numbers_of n.board)) → (x : Tallied)
      → x ≡ counted_in (closing_place l.holds.board.numbers e) some n.board.largest n.board.shares l.full l.tallies
      → FieldCounted l e (record { holds = n; tallies = x.tallies; full = x.stops })
  done_counted some is a x x-is =
      field_counted_lem l k e late n (step_of_act (Ok some) (numbers_of n.board)) a x
      (x-is
      ∙ ap (λ (largest : ℕ). counted_in (closing_place l.holds.board.numbers e) some largest n.board.shares l.full l.tallies)
      (largest_stays l.holds e n (step_of_act (Ok some) (numbers_of n.board)) a)
      ∙ counted_by l.holds.board.numbers l.holds.board.largest n.board.shares (numbers_of n.board) l.full l.tallies e some is)

  -- and of one that is refused
  pub refused_counted : (refusal : Refusal!) → Acted l.holds e n (step_of_act (Err refusal) (numbers_of n.board))
      → FieldCounted l e (record { holds = n; tallies = l.tallies; full = l.full })
  refused_counted refusal a =
      field_counted_lem l k e late n (step_of_act (Err refusal) (numbers_of n.board)) a (tallied l.full l.tallies)
      (refused_by l.holds.board.numbers l.holds.board.largest n.board.shares (numbers_of n.board) l.full l.tallies e refusal)
