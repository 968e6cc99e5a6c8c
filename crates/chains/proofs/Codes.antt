-- Each code of the table is given exactly when its line says.
use mathlib.Core.Path.{◌≡◌, refl, sym, ap, subst, ◌∙◌}
use mathlib.Core.Bool.{Bool, true, false, cond, not, ◌&&◌, ◌||◌, false≢true}
use mathlib.Core.Logic.{◌⊎◌, inl, inr, ◌≢◌}
use mathlib.Core.Option.{none, some}
use mathlib.Core.List.{List, []}
use Prim.Native.Nat.{ℕ, suc, ◌^◌, ◌≤◌, ◌<◌, max}
use native.Mathlib.Omega.{arith}
use lib.Dec.{leb, eqb}
use lib.ListN.{length}
use Rattle.base.specs.Tests.{Decides}
use Rattle.base.proofs.Decides.{d_iff, d_leb, d_eqb, d_not, d_and, d_or}
use Rattle.base.proofs.Numbers.{split, eqb_yes}
use Rattle.base.proofs.Tests.{and_left, and_right}
use Rattle.rules.specs.Board
use Rattle.rules.specs.Board.{table_length, Record, Stand, out, queued, serving, at, depth, waits, used_share, Has}
use Rattle.rules.specs.Choice.{Out, refused, done, taken, sent, Turn, refuse, where_is, number_outside, none_has, some_has, length_outside, lane_full}
use Rattle.rules.specs.Choice.{take_record}
use Rattle.rules.specs.Choice.{is_none, least_ready, send, serve}
use Rattle.rules.specs.Blocks.{Opening, share_outside, all_taken, over_free, open_block, rename_block, close_block}
use Rattle.rules.specs.Spoilt.{is_queued, ready_num, unspoilt}
use Rattle.rules.specs.Calls.{Single, open!, rename!, close!, record!, serve!, step, Call, one, burst!, told, code_of}
use Rattle.rules.specs.Calls.{Outcome, wrong_tables, done!, refused_by, unless_spoilt, by_board, by_tables, call, make_by, make}
use Rattle.rules.specs.Burst.{Burst, burst}
use Rattle.rules.specs.Runs.{answer}
use Rattle.rules.specs.Promises.{serves, Stopped, by_call, by_list, by_bytes}
use Rattle.rules.proofs.Cases.{Unserved, nobody, late, Begins, Refusal, some_in, where_has, least_of, serve_cases}
use Rattle.rules.proofs.Exact.{found_decides, unknown_decides, taken_decides, free_decides, waits_decides, none_wait}
use Rattle.rules.proofs.Names.{has_where}
use Rattle.rules.proofs.Shape.{LeastIs, queued_ok}
use Rattle.rules.proofs.Promises.{burst_is_serves}
use Rattle.rules.proofs.Refusals.{ServeOut, serve_codes, burst_codes}
use Rattle.rules.proofs.Tidy.{Tidy}
use Rattle.rules.proofs.Unspoilt.{tidy_play}
use Rattle.board.specs.declared.Board as struct
use Rattle.board.specs.Reading.{view, is_spelt}
use Rattle.board.proofs.Sound.{spelt_decides, fit_view}
use Rattle.board.specs.Leaving.{ids_after, lens_after, Known}
use Rattle.calls.specs.Promises.{lent, called, made}
use Rattle.calls.specs.Contract.{served_by, board_or, good_burst, bursted_by, called_serve, called_burst}
use Rattle.board.proofs.Tables.{right_tables}
use Rattle.calls.proofs.Promises.{burst_known}
use Rattle.chains.specs.Codes.{Lines, last, line, ExactlyBelow, Exactly}
use Rattle.chains.specs.Codes.{WrongTables, NoneWaits, SizeOutside, OverFree, BeginsLate, TooLate, ListFull, OverBytes}
use Rattle.chains.specs.Codes.{make_lines, lent_lines, open_lines, close_lines, rename_lines, record_lines, serve_lines, burst_lines, Codes}

-- ---- a code falls on a line: that line's condition holds, and that of no line above it

unfoldable Falls : (code : ℕ) → Lines → Type 0
Falls code last = code ≡ 0
Falls code (line c holds rest) = (holds × (code ≡ c)) ⊎ ((holds → ⊥) × Falls code rest)

-- a code is none of the lines', nor 0; the lines' codes are apart
unfoldable absent : (code : ℕ) → Lines → Bool
absent code last = not (eqb code 0)
absent code (line c holds rest) = not (eqb code c) && absent code rest

unfoldable apart : Lines → Bool
apart last = true
apart (line c holds rest) = absent c rest && apart rest

differ : (a b : ℕ) → not (eqb a b) ≡ true → a ≢ b
differ a b e f = false≢true (sym (ap not (eqb_yes a b f)) ∙ e)

falls_not : (code : ℕ) (lines : Lines) → absent code lines ≡ true → Falls code lines → ⊥
unfolding Falls absent
falls_not code last a e = differ code 0 a e
falls_not code (line c holds rest) a (inl (h, e)) = differ code c (and_left (not (eqb code c)) (absent code rest) a) e
falls_not code (line c holds rest) a (inr (n, f)) = falls_not code rest (and_right (not (eqb code c)) (absent code rest) a) f

-- below a line that holds none is given
none_below : (code : ℕ) (above : Type 0) (lines : Lines) → above → absent code lines ≡ true → ExactlyBelow code above lines
unfolding ExactlyBelow absent
none_below code above last h a = (λ e. absurd (differ code 0 a e), λ n. absurd (n h))
none_below code above (line c holds rest) h a = (
  (λ e. absurd (differ code c (and_left (not (eqb code c)) (absent code rest) a) e), λ w. absurd (w.1 h)),
  none_below code (above ⊎ holds) rest (inl h) (and_right (not (eqb code c)) (absent code rest) a),
)

absent_too : (code c : ℕ) (rest : Lines) → code ≡ c → absent c rest ≡ true → absent code rest ≡ true
absent_too code c rest e a = subst (λ (k : ℕ). absent k rest ≡ true) (sym e) a

neither : {A B : Type 0} → (A → ⊥) → (B → ⊥) → A ⊎ B → ⊥
neither f g (inl a) = f a
neither f g (inr b) = g b

falls_below : (code : ℕ) (above : Type 0) (lines : Lines) → (above → ⊥) → apart lines ≡ true → Falls code lines → ExactlyBelow code above lines
unfolding ExactlyBelow Falls apart
falls_below code above last n a e = (λ _. n, λ _. e)
falls_below code above (line c holds rest) n a (inl (h, e)) =
    ((λ _. (h, n), λ _. e), none_below code (above ⊎ holds) rest (inr h) (absent_too code c rest e (and_left (absent c rest) (apart rest) a)))
falls_below code above (line c holds rest) n a (inr (m, f)) = (
  (λ e. absurd (falls_not code rest (absent_too code c rest e (and_left (absent c rest) (apart rest) a)) f), λ w. absurd (m w.0)),
  falls_below code (above ⊎ holds) rest (neither n m) (and_right (absent c rest) (apart rest) a) f,
)

exactly : (code : ℕ) (lines : Lines) → apart lines ≡ true → Falls code lines → Exactly code lines
exactly code lines a f = falls_below code ⊥ lines (λ z. z) a f

-- ---- a check's code falls on its line, or the rest's on the lines below

not_by : {t : Bool} {P : Type 0} → Decides t P → t ≡ false → P → ⊥
not_by d e p = false≢true (sym e ∙ d.no p)

abbrev code_by : Board.Board → Turn → ℕ
code_by m u = code_of (told m u.out)

falls_check : (m : Board.Board) (t : Bool) (code : ℕ) (u : Turn) (rest : Lines) {P : Type 0} → Decides t P → (t ≡ false → Falls (code_by m u) rest)
    → Falls (code_by m (cond t (refuse m code) u)) (line code P rest)
unfolding Falls
falls_check m true code u rest d f = inl (d.yes refl, refl)
falls_check m false code u rest d f = inr (not_by d refl, f refl)

falls_done : Falls 0 last
unfolding Falls
falls_done = refl

-- ---- the block that has a number

module _ (m : Board.Board) (g : Tidy m) where
  -- a test of the place that is found decides the fact of the place that has the number
  at_found : (n : ℕ) {t : Bool} (P : ℕ → Type 0) → none_has m n ≡ false → Decides t (P (where_is m n)) → Decides t ((p : ℕ) × Has m p n × P p)
  at_found n P e d = record {
    yes = λ h. (where_is m n, where_has m n (some_in m n e), d.yes h);
    no = λ w. d.no (subst P (sym (has_where m w.0 n g w.1)) w.2);
  }

  over_free_lem : (share : ℕ) → Decides (over_free m share) (OverFree m share)
  unfolding used_share
  over_free_lem share = free_decides m share g.shape.used_share

  -- ---- the calls that look for a number

  open_falls : (o : Opening) → Falls (code_by m (step m (open! o))) (open_lines m o)
  unfolding step open_block
  open_falls o =
      let n = o.number in
      let share = o.share in
      falls_check m (number_outside n || share_outside share) 4 _ _ (d_or (d_eqb n 0) (d_or (d_eqb share 0) (d_leb (suc 65536) share))) λ e4.
      falls_check m (some_has m n) 5 _ _ (found_decides m n) λ e5.
      falls_check m (all_taken m) 7 _ _ (taken_decides m) λ e7.
      falls_check m (over_free m share) 8 _ _ (over_free_lem share) λ e8. falls_done

  close_falls : (n : ℕ) → Falls (code_by m (step m (close! n))) (close_lines m n)
  unfolding step close_block
  close_falls n =
      falls_check m (none_has m n) 6 _ _ (unknown_decides m n) λ e6.
      falls_check m (waits (at m (where_is m n))) 10 _ _
      (at_found n (λ p. (at m p).lane ≢ []) e6 (waits_decides (at m (where_is m n)).lane)) λ e10. falls_done

  rename_falls : (old new : ℕ) → Falls (code_by m (step m (rename! old new))) (rename_lines m old new)
  unfolding step rename_block
  rename_falls old new =
      falls_check m (number_outside new) 4 _ _ (d_eqb new 0) λ e4.
      falls_check m (none_has m old) 6 _ _ (unknown_decides m old) λ e6.
      falls_check m (some_has m new) 5 _ _ (found_decides m new) λ e5. falls_done

  record_falls : (n : ℕ) (r : Record) → Falls (code_by m (step m (record! n r))) (record_lines m n r)
  unfolding step take_record
  record_falls n r =
      falls_check m (number_outside n || length_outside m r.bytes) 4 _ _
      (d_or (d_eqb n 0) (d_or (d_eqb r.bytes 0) (d_leb (suc m.largest) r.bytes))) λ e4.
      falls_check m (none_has m n) 6 _ _ (unknown_decides m n) λ e6.
      falls_check m (lane_full (at m (where_is m n))) 9 _ _
      (at_found n (λ p. length (at m p).lane ≡ depth (at m p)) e6 (full (where_is m n))) λ e9. falls_done
    where
      full : (p : ℕ) → Decides (lane_full (at m p)) (length (at m p).lane ≡ depth (at m p))
      full p = d_iff (d_leb (depth (at m p)) (length (at m p).lane)) (λ l. omega (arith, (g.shape.place_ok p).brief)) (λ e. omega arith)

  -- ---- a serve

  waiting : (p : ℕ) → 1 ≤ length (at m p).lane → (at m p).lane ≢ []
  waiting p h e = omega (arith, ap length e)

  queued_is : (s : Stand) → is_queued s ≡ true → s ≡ queued (ready_num s)
  queued_is out e = absurd (false≢true e)
  queued_is (queued r) e = refl
  queued_is (serving n) e = absurd (false≢true e)

  serve_falls : Falls (code_by m (step m serve!)) (serve_lines m)
  unfolding step Falls send LeastIs
  serve_falls = serve_cases m g (λ u. Falls (code_by m u) (serve_lines m)) (record {
    unserved = un;
    goes_on = λ p c. inr (λ n. waiting p c.lane (n p), inr (λ w. false≢true (ap is_none (sym c.slot ∙ w.slot)), refl));
    begins = λ r t p c e. inr (λ n. waiting p c.lane (n p), inr (λ w. soon r t p c w.late, refl));
  })
    where
      late_by : (r : ℕ) → least_ready m.places ≡ some r → 2 ^ 62 ≤ max m.clock r → (2 ^ 62 ≤ m.clock) ⊎ (m.clock < 2 ^ 62) → BeginsLate m
      late_by r e h (inl l) = inl l
      late_by r e h (inr l) = inr (λ p t q. omega (arith, (least_of m r e).0 p (ap is_queued q), ap ready_num q))

      un : (code : ℕ) → Unserved m code → Refusal code → Falls code (serve_lines m)
      un code (nobody e f) k = inl (none_wait m g e f, refl)
      un code (late r e f h) k =
          let i = (least_of m r f).1 in
          let x = at m i.0 in
          let w = waiting i.0 (queued_ok m.largest x.share x.lane x.stand i.1 (g.shape.place_ok i.0).stand_ok).0 in
          inr (λ n. w (n i.0), inl (record { waits = (i.0, w); slot = e; late = late_by r f h (split (2 ^ 62) m.clock) }, refl))

      soon : (r t p : ℕ) → Begins m r t p → BeginsLate m → ⊥
      soon r t p c (inl l) = omega (arith, c.time, c.soon)
      soon r t p c (inr f) =
          let i = (least_of m r c.least).1 in
          omega (arith, c.time, c.soon, i.2, f i.0 (ready_num (at m i.0).stand) (queued_is (at m i.0).stand i.1))

-- ---- a burst: as the single serving call on the board that it left, and then by its list and its bytes

-- the codes of a serve, and lines under them that speak where it is done
on_below : (code end : ℕ) (m : Board.Board) (rest : Lines) → Falls code (serve_lines m) → (code ≢ 0 → end ≡ code) → (code ≡ 0 → Falls end rest)
    → Falls end (line 1 (NoneWaits m) (line 11 (TooLate m) rest))
unfolding Falls
on_below code end m rest (inl (h, e)) same f = inl (h, same (λ z. omega arith) ∙ e)
on_below code end m rest (inr (n, inl (h, e))) same f = inr (n, inl (h, same (λ z. omega arith) ∙ e))
on_below code end m rest (inr (n, inr (k, e))) same f = inr (n, inr (k, f e))

module _ (m : Board.Board) (g : Tidy m) (bytes : ℕ) (list : List ℕ) where
  abbrev left : Burst
  left = burst m bytes (length list)

  next_tidy : Tidy (burst m bytes (length list)).next
  next_tidy = rw (burst_is_serves m bytes (length list)).next (tidy_play m (serves (burst m bytes (length list)).count) g)

  burst_falls : Falls left.code (burst_lines left.next bytes list left.count left.total)
  unfolding Falls
  burst_falls = go (burst_is_serves m bytes (length list)).stop
    where
      not0 : (left.code ≡ 1) ⊎ (11 ≤ left.code) → left.code ≢ 0
      not0 (inl e) z = omega arith
      not0 (inr h) z = omega arith

      rest : Lines
      rest = line 14 (ListFull list left.count) (line 13 (OverBytes left.next bytes left.total) last)

      by : (code_of (answer left.next serve!) ≢ 0 → left.code ≡ code_of (answer left.next serve!))
          → (code_of (answer left.next serve!) ≡ 0 → Falls left.code rest)
          → Falls left.code (burst_lines left.next bytes list left.count left.total)
      by = on_below (code_of (answer left.next serve!)) left.code left.next rest (serve_falls left.next next_tidy)

      go : Stopped bytes (length list) left → Falls left.code (burst_lines left.next bytes list left.count left.total)
      go (by_call a) = by (λ n. sym (ap code_of a)) (λ z. absurd (not0 (burst_codes m bytes (length list)) (sym (ap code_of a) ∙ z)))
      go (by_list s a n c) = by (λ k. absurd (k (ap code_of a))) (λ z. inl (n, c))
      go (by_bytes s a n l c) = by (λ k. absurd (k (ap code_of a))) (λ z. inr (λ full. omega arith, inl (record { next = s; would = a; over = l }, c)))

-- ---- 3 and 2 come first, on any value

wrong_tables_lem : (ids lens : List ℕ) → Decides (wrong_tables (length ids) (length lens)) (WrongTables ids lens)
wrong_tables_lem ids lens = d_not (d_and (d_eqb (length ids) table_length) (d_eqb (length lens) table_length))

module _ (b : struct.Board) (ids lens : List ℕ) where
  abbrev m : Board.Board
  m = view b ids lens

  module _ (c : Call) (code : Outcome → ℕ) (own : Outcome → Lines) where
    -- a call that is given 3 or 2 has that code; else it has its own, and its own lines, which may speak of what it left
    abbrev Goal : Outcome → Type 0
    Goal o = Falls (code o) (lent_lines b ids lens (own o))

    lent_falls : ((k : ℕ) → code (refused_by (lent b ids lens) c k) ≡ k) → (Known b ids lens → Falls (code (done! m c)) (own (done! m c)))
        → Goal (call (lent b ids lens) c)
    unfolding Falls call
    lent_falls alone f = by_t (wrong_tables (length ids) (length lens)) refl
      where
        by_s : wrong_tables (length ids) (length lens) ≡ false → is_spelt b ids lens ≡ true → (t : Bool) → unspoilt m ≡ t
            → Goal (unless_spoilt (lent b ids lens) c (not t) m)
        by_s e s false u = inr (not_by (wrong_tables_lem ids lens) e, inl (λ z. false≢true (sym u ∙ z.keeps), alone 2))
        by_s e s true u = inr (not_by (wrong_tables_lem ids lens) e, inr (λ n. n known.sound, f known))
          where
            known : Known b ids lens
            known =
                let sizes = right_tables (length ids) (length lens) e in
                record { sound = record { spells = (spelt_decides b ids lens).yes s; keeps = u }; ids_all = sizes.0; lens_all = sizes.1 }

        by_b : wrong_tables (length ids) (length lens) ≡ false → (t : Bool) → is_spelt b ids lens ≡ t
            → Goal (by_board (lent b ids lens) c (cond t (some m) none))
        by_b e false s = inr (not_by (wrong_tables_lem ids lens) e, inl (λ z. not_by (spelt_decides b ids lens) s z.spells, alone 2))
        by_b e true s = by_s e s (unspoilt m) refl

        by_t : (t : Bool) → wrong_tables (length ids) (length lens) ≡ t → Goal (by_tables (lent b ids lens) c t)
        by_t true e = inl ((wrong_tables_lem ids lens).yes e, alone 3)
        by_t false e = by_b e (is_spelt b ids lens) refl

  known_tidy : Known b ids lens → Tidy (view b ids lens)
  known_tidy k = (fit_view b ids lens k.sound).tidy

  single_falls : (x : Single) (own : Lines) → (Tidy m → Falls (code_by m (step m x)) own) → Falls (called b ids lens x).reply.code (lent_lines b ids lens own)
  unfolding called
  single_falls x own f = lent_falls (one x) (λ o. code_of o.answer) (λ o. own) (λ k. refl) (λ k. f (known_tidy k))

  called_serve_lem : Falls (called_serve b ids lens).reply.code (lent_lines b ids lens (serve_lines m))
  unfolding called_serve step
  called_serve_lem = lent_falls (one serve!) (λ o. (served_by b o.answer (board_or m o.board)).code) (λ o. serve_lines m) (λ k. refl)
      (λ k. subst (λ (n : ℕ). Falls n (serve_lines m)) (code_is (serve m).out (serve_codes m)) (serve_falls m (known_tidy k)))
    where
      code_is : (o : Out) → ServeOut o → code_of (told m o) ≡ (served_by b (told m o) (serve m).next).code
      code_is (refused k) e = refl
      code_is done e = absurd e
      code_is (taken a) e = absurd e
      code_is (sent s) e = refl

  called_burst_lem : (bytes : ℕ) (list : List ℕ)
      → let w = called_burst b ids lens bytes list in
      let r = w.reply.answer in
      Falls r.code (lent_lines b ids lens (burst_lines (view r.board w.ids w.lens) bytes list r.count r.bytes.0))
  unfolding called_burst good_burst
  called_burst_lem bytes list = lent_falls (burst! bytes list)
      (λ o. (bursted_by b o.answer o.board o.list).answer.code)
      (λ o. let r = (bursted_by b o.answer o.board o.list).answer in
      burst_lines (view r.board (ids_after o.entries ids) (lens_after o.entries lens)) bytes list r.count r.bytes.0)
      (λ k. refl)
      (λ k. subst FallsBy (sym (burst_known b ids lens bytes list k).1) (burst_falls m (known_tidy k) bytes list))
    where
      FallsBy : Board.Board → Type 0
      FallsBy n = let r = burst m bytes (length list) in Falls r.code (burst_lines n bytes list r.count r.total)

-- ---- a making

size_outside : (L : ℕ) → Decides (not (leb 64 L && leb L 2048)) (SizeOutside L)
size_outside L = d_iff (d_not (d_and (d_leb 64 L) (d_leb L 2048))) (λ n. go (split 64 L) (split L 2048) n) back
  where
    go : (64 ≤ L) ⊎ (L < 64) → (L ≤ 2048) ⊎ (2048 < L) → ((64 ≤ L) × (L ≤ 2048) → ⊥) → SizeOutside L
    go (inr l) h n = inl l
    go (inl l) (inr h) n = inr h
    go (inl l) (inl h) n = absurd (n (l, h))

    back : SizeOutside L → (64 ≤ L) × (L ≤ 2048) → ⊥
    back (inl l) w = omega (arith, w.0)
    back (inr l) w = omega (arith, w.1)

make_falls : (ids lens : List ℕ) (L : ℕ) → Falls (made ids lens L).reply.code (make_lines ids lens L)
unfolding Falls made make
make_falls ids lens L = go (wrong_tables (length ids) (length lens)) (wrong_tables_lem ids lens) (not (leb 64 L && leb L 2048)) (size_outside L)
  where
    go : (t : Bool) → Decides t (WrongTables ids lens) → (u : Bool) → Decides u (SizeOutside L) → Falls (code_of (make_by t u L).answer) (make_lines ids lens L)
    go true d u o = inl (d.yes refl, refl)
    go false d true o = inr (not_by d refl, inl (o.yes refl, refl))
    go false d false o = inr (not_by d refl, inr (not_by o refl, refl))

-- ---- THE TABLE

pub codes_exact : Codes
unfolding absent apart
codes_exact = record {
  making = λ ids lens L. exactly _ (make_lines ids lens L) refl (make_falls ids lens L);
  opening = λ b ids lens o. let own = open_lines (view b ids lens) o in
      exactly _ (lent_lines b ids lens own) refl (single_falls b ids lens (open! o) own (λ g. open_falls (view b ids lens) g o));
  closing = λ b ids lens n. let own = close_lines (view b ids lens) n in
      exactly _ (lent_lines b ids lens own) refl (single_falls b ids lens (close! n) own (λ g. close_falls (view b ids lens) g n));
  renaming = λ b ids lens old new. let own = rename_lines (view b ids lens) old new in
      exactly _ (lent_lines b ids lens own) refl (single_falls b ids lens (rename! old new) own (λ g. rename_falls (view b ids lens) g old new));
  recording = λ b ids lens n r. let own = record_lines (view b ids lens) n r in
      exactly _ (lent_lines b ids lens own) refl (single_falls b ids lens (record! n r) own (λ g. record_falls (view b ids lens) g n r));
  serving = λ b ids lens. exactly _ (lent_lines b ids lens (serve_lines (view b ids lens))) refl (called_serve_lem b ids lens);
  bursting = λ b ids lens bytes list. exactly _ _ refl (called_burst_lem b ids lens bytes list);
}
