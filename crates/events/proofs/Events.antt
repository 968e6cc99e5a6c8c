-- A field done by the engine's steps is a field done by the rules.
use mathlib.Core.Path.{◌≡◌, refl, sym, ap, subst, ◌∙◌}
use mathlib.Core.Bool.{Bool, true, false, not, true≢false, false≢true}
use mathlib.Core.Logic.{◌⊎◌, inl, inr}
use mathlib.Core.List.{List}
use Prim.Native.Nat.{ℕ, ◌≤◌, ◌<◌}
use native.Mathlib.Omega.{arith}
use lib.Dec.{eqb}
use lib.ListN.{get_or}
use Rattle.std.specs.Prelude.{Result, Ok, Err}
use Rattle.numbers.specs.declared.refusal.Refusal.{Refusal}
use Rattle.rules.specs.Board
use Rattle.rules.specs.Board.{Record, bytes_charged}
use Rattle.rules.specs.Choice.{Out, refused, done, taken, sent, Taken, Sending, Turn, send, serve}
use Rattle.rules.specs.Blocks.{meant}
use Rattle.rules.specs.Calls.{Single, open!, rename!, close!, record!, serve!, step, told, code_of}
use Rattle.rules.specs.Runs.{is_serve, answer}
use Rattle.rules.proofs.Cases.{refusal_not0, call_cases}
use Rattle.rules.proofs.Tidy.{Tidy}
use Rattle.operands.specs.declared.Opening.{Opening}
use Rattle.log_bytes.specs.declared.Event.{Event}
use Rattle.log_bytes.specs.declared.Event.TheVariants.{Open, Close, Rename, Arrive, Serve}
use Rattle.listing_rules.specs.Events.{turn_of}
use Rattle.board.specs.declared.Board as struct
use Rattle.board.specs.Reading.{encode, view}
use Rattle.board.specs.Memory.{numbers_of, Holding, holding, blocks_of, with_blocks, engine_of, with_engine, taking_of, with_taking, seen_of}
use Rattle.board.specs.Leaving.{Reply, Returned, returned, replied, Known, ruled}
use Rattle.board.proofs.Reading.{view_encode}
use Rattle.board.proofs.Sound.{fit_view}
use Rattle.board.proofs.Next.{ReturnsTurn, call_follows}
use Rattle.board.proofs.Fields.{number_is, share_is}
use Rattle.taking.specs.Taking.{recording, recorded_in}
use Rattle.taking.proofs.Answers.{record_known}
use Rattle.blocks.specs.Blocks.{renaming, renamed_in, answered, opened_in, closed_in}
use Rattle.blocks.proofs.Answers.{rename_known, open_known, close_known}
use Rattle.serving.specs.declared.Served.{Served}
use Rattle.serving.specs.Serving.{ServeTells, untold, Step, step_of, stayed, step_in, within_in, Within, engine_after}
use Rattle.serving.proofs.Within.{fit_serve, Stops, SendsOne}
use Rattle.serving.proofs.Known.{within, spells, by_cases, after_is, known_next, refused_stays}
use Rattle.events.specs.Events.{told_by, SendSeen, Acted}

-- ---- What came of a turn: a record was sent, or not

abbrev is_sent : Out → Bool
is_sent (refused code) = false
is_sent done = false
is_sent (taken a) = false
is_sent (sent x) = true

-- where none was, nothing is told
none_told : (o : Out) → is_sent o ≡ false → told_by o ≡ untold
none_told (refused code) e = refl
none_told done e = refl
none_told (taken a) e = refl
none_told (sent x) e = absurd (true≢false e)

none_sent : {A : Type 0} (o : Out) → is_sent o ≡ false → (x : Sending) → o ≡ sent x → A
none_sent o e x o_is = absurd (true≢false (ap is_sent (sym o_is) ∙ e))

-- the sending of a turn, or y
abbrev sending_or : Sending → Out → Sending
sending_or y (refused code) = y
sending_or y done = y
sending_or y (taken a) = y
sending_or y (sent x) = x

-- only a serve sends
abbrev OnlyServesSend : Single → Turn → Type 0
OnlyServesSend x t = is_serve x ≡ false → is_sent t.out ≡ false

only_serves : (m : Board.Board) → Tidy m → (x : Single) → OnlyServesSend x (step m x)
unfolding send
only_serves m t = call_cases m t OnlyServesSend (record {
  refused = λ x code n e. refl;
  opens = λ o can e. refl;
  renames = λ p old new can e. refl;
  closes = λ p n can e. refl;
  takes = λ p n x can e. refl;
  goes_on = λ p on e. absurd (true≢false e);
  begins = λ r t p on q e. absurd (true≢false e);
})

-- a serve is refused with a code, or sends
abbrev pub serves_to : Out → Bool
serves_to (refused code) = not (eqb code 0)
serves_to done = false
serves_to (taken a) = false
serves_to (sent x) = true

abbrev ServesTo : Single → Turn → Type 0
ServesTo x t = is_serve x ≡ true → serves_to t.out ≡ true

pub serves_to_lem : (m : Board.Board) → Tidy m → serves_to (step m serve!).out ≡ true
unfolding send
serves_to_lem m t = by_case serve! refl
  where
    by_case : (x : Single) → ServesTo x (step m x)
    by_case = call_cases m t ServesTo (record {
      refused = λ x code n e. ap not (refusal_not0 code n);
      opens = λ o can e. absurd (false≢true e);
      renames = λ p old new can e. absurd (false≢true e);
      closes = λ p n can e. absurd (false≢true e);
      takes = λ p n x can e. absurd (false≢true e);
      goes_on = λ p on e. refl;
      begins = λ r t p on q e. refl;
    })

-- ---- What every field done tells: a place and an entry within the arrays, and a small charge

pub record Inside (r : Step) : Type 0 where
  pub place : r.place < 64
  pub entry : r.entry < 2048
  pub few : r.bytes.0 ≤ 65536

pub inside : (s : Holding) (e : Event) (n : Holding) (r : Step) → Acted s e n r → Inside r
inside s e n r a = subst Inside (sym a.tells) (by_out (turn_of m e).out a.sends)
  where
    m : Board.Board
    m = view s.board s.ids s.lens

    by_out : (o : Out) → ((x : Sending) → o ≡ sent x → SendSeen m x n) → Inside (step_of (code_of (told m o)) (told_by o) (numbers_of n.board))
    by_out (refused code) seen = record { place = omega arith; entry = omega arith; few = omega arith }
    by_out done seen = record { place = omega arith; entry = omega arith; few = omega arith }
    by_out (taken a) seen = record { place = omega arith; entry = omega arith; few = omega arith }
    by_out (sent x) seen = let y = seen x refl in record { place = y.place; entry = y.entry; few = y.small }

-- ---- A field on what is held in s

module _ (s : Holding) (k : Known s.board s.ids s.lens) where
  abbrev b : struct.Board
  b = s.board

  abbrev m : Board.Board
  m = view b s.ids s.lens

  spelt : encode m ≡ b
  spelt = spells b s.ids s.lens k

  as_event : (e v : Event) → e ≡ v → (n : Holding) (r : Step) → Acted s v n r → Acted s e n r
  as_event e v e-is n r a = subst (λ (x : Event). Acted s x n r) (sym e-is) a

  by_rest : {e : Event} (n c : struct.Board) (r : Step) → n ≡ c → Acted s e (holding c s.ids s.lens) r → Acted s e (holding n s.ids s.lens) r
  by_rest {e} n c r same a = subst (λ (d : struct.Board). Acted s e (holding d s.ids s.lens) r) (sym same) a

  -- ---- A call that is no serve: v is its event

  by_call : (x : Single) → is_serve x ≡ false → (v : Event) → turn_of m v ≡ step m x
      → (code : ℕ) (n : struct.Board) (ids lens : List ℕ) → returned (replied code n) ids lens ≡ ruled b s.ids s.lens x
      → Acted s v (holding n ids lens) (stayed code (numbers_of n))
  by_call x quiet v turn code n ids lens given = record {
    good = subst (λ (w : Returned Reply). Known w.reply.board w.ids w.lens) (sym given) f.good;
    next = ap (λ (w : Returned Reply). view w.reply.board w.ids w.lens) given ∙ f.reads ∙ ap (λ (t : Turn). t.next) (sym turn);
    tells = (λ j. step_of (code_is j) (silent j) (numbers_of n))
        ∙ ap (λ (t : Turn). step_of (code_of (told m t.out)) (told_by t.out) (numbers_of n)) (sym turn);
    sends = λ y out. none_sent (step m x).out unsent y (ap (λ (t : Turn). t.out) (sym turn) ∙ out);
  }
    where
      f : ReturnsTurn b s.ids s.lens (ruled b s.ids s.lens x) (step m x)
      f = call_follows b s.ids s.lens k x quiet

      code_is : code ≡ code_of (answer m x)
      code_is = ap (λ (w : Returned Reply). w.reply.code) given ∙ f.code

      unsent : is_sent (step m x).out ≡ false
      unsent = only_serves m (fit_view b s.ids s.lens k.sound).tidy x quiet

      silent : untold ≡ told_by (step m x).out
      silent = sym (none_told (step m x).out unsent)

  -- n is the board after it
  module _ (e : Event) (code : ℕ) (n : struct.Board) where
    stands : {c : struct.Board} (ids lens : List ℕ) → n ≡ c → returned (replied code n) ids lens ≡ returned (replied code c) ids lens
    stands ids lens rest = ap (λ (c : struct.Board). returned (replied code c) ids lens) rest

    pub open_acts : (o : Opening) → e ≡ Open o
        → answered code (blocks_of n) ≡ opened_in (blocks_of b) o
        → n ≡ with_blocks b (blocks_of n)
        → Acted s e (holding n s.ids s.lens) (stayed code (numbers_of n))
    open_acts o e-is x-is rest =
        as_event e (Open o) e-is _ _
        (by_call (open! (meant o)) refl (Open o) refl code n s.ids s.lens
        (stands s.ids s.lens rest ∙ open_known b s.ids s.lens k o _ x-is))

    pub close_acts : (block : ℕ) → e ≡ Close block
        → answered code (blocks_of n) ≡ closed_in b.active b.counts (blocks_of b) block
        → n ≡ with_blocks b (blocks_of n)
        → Acted s e (holding n s.ids s.lens) (stayed code (numbers_of n))
    close_acts block e-is x-is rest =
        as_event e (Close block) e-is _ _
        (by_call (close! block) refl (Close block) refl code n s.ids s.lens
        (stands s.ids s.lens rest ∙ close_known b s.ids s.lens k block _ x-is))

    pub rename_acts : (old new : ℕ) → e ≡ Rename old new
        → renaming code n.numbers ≡ renamed_in b.numbers old new
        → n ≡ record b { numbers = n.numbers }
        → Acted s e (holding n s.ids s.lens) (stayed code (numbers_of n))
    rename_acts old new e-is x-is rest =
        as_event e (Rename old new) e-is _ _
        (by_call (rename! old new) refl (Rename old new) refl code n s.ids s.lens
        (stands s.ids s.lens rest ∙ rename_known b s.ids s.lens k old new _ x-is))

    pub record_acts : (block number bytes : ℕ) → e ≡ Arrive block number bytes
        → (tells : Taken) (ids lens : List ℕ)
        → recording code tells (taking_of n) ids lens
        ≡ recorded_in (seen_of b) b.largest b.clock block number bytes (taking_of b) s.ids s.lens
        → n ≡ with_taking b (taking_of n)
        → Acted s e (holding n ids lens) (stayed code (numbers_of n))
    record_acts block number bytes e-is tells ids lens x-is rest =
        as_event e (Arrive block number bytes) e-is _ _
        (by_call (record! block (record { number = number; bytes = bytes })) refl (Arrive block number bytes) refl
        code n ids lens
        (stands ids lens rest ∙ record_known b s.ids s.lens k block number bytes _ x-is))

  -- ---- A serve

  -- a step with these parts, and its own numbers after it
  step_by : (v : Step) (code : ℕ) (t : ServeTells) → v.code ≡ code → v.place ≡ t.place → v.entry ≡ t.entry → v.bytes.0 ≡ t.bytes
      → v.slot_clock ≡ t.clock → v.began ≡ t.began → v.lost.0 ≡ t.lost → v ≡ step_of code t v.after
  step_by v code t c p e y time began lost = λ j. record {
    code = c j;
    place = p j;
    entry = e j;
    bytes = record { 0 = y j };
    slot_clock = time j;
    began = began j;
    lost = record { 0 = lost j };
    after = v.after;
  }

  -- w is what serving gives, with bytes for any record and room for one
  module _ (w : Within) (w-is : w ≡ within b s.lens 65536 1) where
    abbrev next_board : struct.Board
    next_board = with_engine b (engine_after w)

    abbrev held : Holding
    held = holding next_board s.ids s.lens

    -- what is to be shown of it
    record ServeIs : Type 0 where
      good : Known next_board s.ids s.lens
      next : view next_board s.ids s.lens ≡ (serve m).next
      tells : w.step ≡ step_of (code_of (told m (serve m).out)) (told_by (serve m).out) w.step.after
      sends : (x : Sending) → (serve m).out ≡ sent x → SendSeen m x held

    refusal : Stops m 65536 1 w → (serve m).out ≡ refused w.step.code → ServeIs
    refusal x out! = record {
      good = subst (λ (c : struct.Board). Known c s.ids s.lens) (sym same) k;
      next = ap (λ (c : struct.Board). view c s.ids s.lens) same ∙ sym (refused_stays b s.ids s.lens k w.step.code out!);
      tells = silent ∙ ap (λ (o : Out). step_of (code_of (told m o)) (told_by o) w.step.after) (sym out!);
      sends = λ y sent!. none_sent (serve m).out (ap is_sent out!) y sent!;
    }
      where
        same : with_engine b (engine_after w) ≡ b
        same =
            ap (λ (y : Within). with_engine b (engine_after y)) x.same
            ∙ ap (λ (c : struct.Board). with_engine c (engine_of (encode m))) (sym spelt)
            ∙ spelt

        part : {A : Type 0} (f : Step → A) → f w.step ≡ f (stayed w.step.code (numbers_of (encode m)))
        part f = ap (λ (y : Within). f y.step) x.same

        silent : w.step ≡ step_of w.step.code untold w.step.after
        silent =
            step_by w.step w.step.code untold refl (part (λ v. v.place)) (part (λ v. v.entry)) (part (λ v. v.bytes.0))
            (part (λ v. v.slot_clock)) (part (λ v. v.began)) (part (λ v. v.lost.0))

    sending : SendsOne m s.ids s.lens 65536 1 w → ServeIs
    sending g = record {
      good = subst (λ (c : struct.Board). Known c s.ids s.lens) (sym next_is) (known_next b s.ids s.lens k g.holds);
      next = ap (λ (c : struct.Board). view c s.ids s.lens) next_is
          ∙ view_encode (serve m).next s.ids s.lens (fit_serve m (fit_view b s.ids s.lens k.sound)) g.holds;
      tells =
          step_by w.step 0 (told_by (sent x)) g.code g.place_is g.entry_is g.charge_is g.clock_is g.began_is g.lost_is
          ∙ ap (λ (o : Out). step_of (code_of (told m o)) (told_by o) w.step.after) (sym g.out);
      sends = λ y sent!. subst (λ (z : Sending). SendSeen m z held) (ap (sending_or x) (sym g.out ∙ sent!)) seen;
    }
      where
        x : Sending
        x = g.sends

        next_is : with_engine b (engine_after w) ≡ encode (serve m).next
        next_is = after_is b s.ids s.lens k w g.next

        seen : SendSeen m x held
        seen = record {
          place = subst (λ (p : ℕ). p < 64) g.place_is g.inside;
          entry = subst (λ (p : ℕ). p < 2048) g.entry_is g.entry;
          number = ap (λ (p : ℕ). get_or s.ids p 0) (sym g.entry_is) ∙ g.number_is;
          bytes = ap (λ (p : ℕ). get_or s.lens p 0) (sym g.entry_is) ∙ g.bytes_is;
          block = ap (λ (c : struct.Board). get_or c.numbers x.place 0) (sym spelt) ∙ number_is m x.place;
          share = ap (λ (c : struct.Board). get_or c.shares x.place 0) (sym spelt) ∙ share_is m x.place;
          small = g.fits;
        }

    serve_is : ServeIs
    serve_is = go (by_cases b s.ids s.lens k 65536 1 w w-is)
      where
        why : Stops m 65536 1 w
            → ((serve m).out ≡ refused w.step.code) ⊎ ((◌≡◌ {A = ℕ} 1 0) ⊎ ((r : Record) × (65536 < bytes_charged r) × (bytes_charged r < 65536)))
            → ServeIs
        why x (inl y) = refusal x y
        why x (inr (inl z)) = absurd (omega arith)
        why x (inr (inr y)) = absurd (omega (arith, y.1, y.2))

        go : Stops m 65536 1 w ⊎ SendsOne m s.ids s.lens 65536 1 w → ServeIs
        go (inl x) = why x x.why
        go (inr g) = sending g

    serve_is_acted : (e : Event) → e ≡ Serve → Acted s e held w.step
    unfolding step
    serve_is_acted e e-is =
        as_event e Serve e-is held w.step
        (record { good = serve_is.good; next = serve_is.next; tells = serve_is.tells; sends = serve_is.sends })

  pub serve_acts : (e : Event) (r : Result Served Refusal) (n : struct.Board) → e ≡ Serve
      → within_in r n ≡ within b s.lens 65536 1
      → n ≡ with_engine b (engine_of n)
      → Acted s e (holding n s.ids s.lens) (step_in r (numbers_of n))
  serve_acts e (Ok x) n e-is w-is rest = by_rest n (with_engine b (engine_of n)) _ rest (serve_is_acted (within_in (Ok x) n) w-is e e-is)
  serve_acts e (Err x) n e-is w-is rest = by_rest n (with_engine b (engine_of n)) _ rest (serve_is_acted (within_in (Err x) n) w-is e e-is)
