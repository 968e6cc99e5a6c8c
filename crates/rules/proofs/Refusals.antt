-- Demand 1: what a refusal leaves, and that no call of a run is given 3 or 2.
use mathlib.Core.Path.{◌≡◌, refl, sym, ap, ◌∙◌}
use mathlib.Core.Bool.{Bool, true, false, not, ◌&&◌, cond}
use mathlib.Core.Logic.{◌⊎◌, inl, inr, ◌≢◌}
use mathlib.Core.Option.{Option, none, some}
use mathlib.Core.List.{List}
use Prim.Native.Nat.{ℕ, zero, suc, ◌-◌, ◌≤◌}
use native.Mathlib.Omega.{arith}
use lib.Dec.{leb, ltb}
use lib.ListN.{length}
use Rattle.rules.specs.Board.{table_length, Record, Board, fresh, bytes_charged}
use Rattle.rules.specs.Choice.{Out, refused, done, taken, sent, Turn, refuse, send, serve}
use Rattle.rules.specs.Burst.{Burst, burst, no_room, charge_next, stopped, sent_first, with_room}
use Rattle.rules.specs.Spoilt.{spoilt, unspoilt}
use Rattle.rules.specs.Calls.{Single, open!, rename!, close!, record!, serve!, step, Call, one, burst!, gives, told, code_of, Lent, kept, Outcome}
use Rattle.rules.specs.Calls.{wrong_tables, writes, done!, refused_by, unless_spoilt, by_board, by_tables, call, make, make_by}
use Rattle.rules.specs.Promises.{KeepsAll}
use Rattle.rules.proofs.Cases.{Unserved, nobody, late, other_cases, serve_turns}

-- a turn is a refusal of the board as it was, or its answer's code is 0
RefusedOrDone : Board → Turn → Type 0
RefusedOrDone b u = ((code : ℕ) × (u ≡ refuse b code)) ⊎ (code_of (told b u.out) ≡ 0)

kind_step : (b : Board) (x : Single) → RefusedOrDone b (step b x)
unfolding RefusedOrDone send
kind_step b = other_cases b (λ x u. RefusedOrDone b u) (record {
  refused = λ x code r. inl (code, refl);
  opens = λ o c. inr refl;
  renames = λ old new c. inr refl;
  closes = λ n c. inr refl;
  takes = λ n r c. inr refl;
}) (serve_turns b (RefusedOrDone b) (λ code u. inl (code, refl)) (λ p e. inr refl) (λ r m. inr refl))

-- no refusal writes an entry
pub writes_refused : (x : Single) (code : ℕ) → writes x (refused code) ≡ kept
writes_refused (open! o) code = refl
writes_refused (rename! old new) code = refl
writes_refused (close! n) code = refl
writes_refused (record! n r) code = refl
writes_refused serve! code = refl

-- a call is given 3, or 2, or does what the rules say of the board
pub call_by : (lent : Lent) (c : Call) (P : Outcome → Type 0) → ((code : ℕ) → P (refused_by lent c code)) → ((b : Board) → lent.board ≡ some b → P (done! b c))
    → P (call lent c)
unfolding call
call_by lent c P given go = by_t (wrong_tables lent.numbers lent.lengths)
  where
    by_s : (b : Board) → lent.board ≡ some b → (t : Bool) → P (unless_spoilt lent c t b)
    by_s b e true = given 2
    by_s b e false = go b e

    by_b : (m : Option Board) → lent.board ≡ m → P (by_board lent c m)
    by_b none e = given 2
    by_b (some b) e = by_s b e (spoilt b)

    by_t : (t : Bool) → P (by_tables lent c t)
    by_t true = given 3
    by_t false = by_b lent.board refl

kept_all : (lent : Lent) (c : Call) (code : ℕ) → KeepsAll lent c (refused_by lent c code)
kept_all lent c code = record { alone = refl; board = refl; entries = refl; list = refl }

pub refusal_keeps : (lent : Lent) (x : Single) → code_of (call lent (one x)).answer ≢ 0 → KeepsAll lent (one x) (call lent (one x))
unfolding RefusedOrDone
refusal_keeps lent x =
    call_by lent (one x) (λ o. code_of o.answer ≢ 0 → KeepsAll lent (one x) o) (λ code n. kept_all lent (one x) code) (λ b e. go b e (kind_step b x))
  where
    go : (b : Board) → lent.board ≡ some b → RefusedOrDone b (step b x) → code_of (done! b (one x)).answer ≢ 0 → KeepsAll lent (one x) (done! b (one x))
    go b e (inr z) n = absurd (n z)
    go b e (inl (code, z)) n = record {
      alone = ap (λ (t : Turn). told b t.out) z ∙ sym (ap (λ (t : Turn). gives (code_of (told b t.out))) z);
      board = ap (λ (t : Turn). some t.next) z ∙ sym e;
      entries = ap (λ (t : Turn). writes x t.out) z ∙ writes_refused x code;
      list = refl;
    }

-- a serve is refused with 1 or 11, or it sends
abbrev pub ServeOut : Out → Type 0
ServeOut (refused code) = (code ≡ 1) ⊎ (code ≡ 11)
ServeOut done = ⊥
ServeOut (taken a) = ⊥
ServeOut (sent s) = Unit {0}

pub serve_codes : (b : Board) → ServeOut (serve b).out
unfolding send
serve_codes b = serve_turns b (λ u. ServeOut u.out) stop (λ p e. tt) (λ r m. tt)
  where
    stop : (code : ℕ) → Unserved b code → (code ≡ 1) ⊎ (code ≡ 11)
    stop code (nobody e l) = inl refl
    stop code (late r e l h) = inr refl

-- a burst's codes are 1 and those from 11 on
abbrev is_stop : ℕ → Type 0
is_stop code = (code ≡ 1) ⊎ (11 ≤ code)

stops : (code : ℕ) → (code ≡ 1) ⊎ (code ≡ 11) → is_stop code
stops code (inl e) = inl e
stops code (inr e) = inr (omega arith)

pub stop_else : (code : ℕ) → is_stop code → (code ≡ 3) ⊎ (code ≡ 2) → ⊥
stop_else code (inl e) (inl f) = omega arith
stop_else code (inl e) (inr f) = omega arith
stop_else code (inr e) (inl f) = omega arith
stop_else code (inr e) (inr f) = omega arith

pub burst_codes : (b : Board) (bytes room : ℕ) → is_stop (burst b bytes room).code
unfolding burst
burst_codes b bytes zero = go (serve b).out (serve_codes b)
  where
    go : (o : Out) → ServeOut o → is_stop (no_room b o).code
    go (refused code) s = stops code s
    go done s = inr (omega arith)
    go (taken a) s = inr (omega arith)
    go (sent z) s = inr (omega arith)
burst_codes b bytes (suc room) = go (serve b).out (serve_codes b) (burst_codes (serve b).next (bytes - charge_next (serve b).out) room)
  where
    rest : Burst
    rest = burst (serve b).next (bytes - charge_next (serve b).out) room

    fits : (r : Record) (t : Bool) → is_stop rest.code → is_stop (cond t (stopped b 13) (sent_first r rest)).code
    fits r true s = inr (omega arith)
    fits r false s = s

    go : (o : Out) → ServeOut o → is_stop rest.code → is_stop (with_room b bytes o rest).code
    go (refused code) s i = stops code s
    go done s i = inr (omega arith)
    go (taken a) s i = inr (omega arith)
    go (sent z) s i = fits z.front (ltb bytes (bytes_charged z.front)) i

-- a burst that is given 3 or 2
pub burst_refusal_keeps : (lent : Lent) (bytes : ℕ) (list : List ℕ)
    → (code_of (call lent (burst! bytes list)).answer ≡ 3) ⊎ (code_of (call lent (burst! bytes list)).answer ≡ 2)
    → KeepsAll lent (burst! bytes list) (call lent (burst! bytes list))
burst_refusal_keeps lent bytes list =
    call_by lent (burst! bytes list) (λ o. (code_of o.answer ≡ 3) ⊎ (code_of o.answer ≡ 2) → KeepsAll lent (burst! bytes list) o)
    (λ code g. kept_all lent (burst! bytes list) code)
    (λ b e g. absurd (stop_else (burst b bytes (length list)).code (burst_codes b bytes (length list)) g))

-- the board of all zeros is spoilt
zero_spoilt : spoilt (fresh 0) ≡ true
unfolding unspoilt fresh
zero_spoilt = refl

-- a refused making
pub refused_making_lem : (numbers lengths L : ℕ) → code_of (make numbers lengths L).answer ≢ 0
    → ((make numbers lengths L).entries ≡ kept) × ((make numbers lengths L).board ≡ some (fresh 0)) × (spoilt (fresh 0) ≡ true)
unfolding make
refused_making_lem numbers lengths L no0 = go (wrong_tables numbers lengths) (not (leb 64 L && leb L 2048)) no0
  where
    go : (t u : Bool) → code_of (make_by t u L).answer ≢ 0
        → ((make_by t u L).entries ≡ kept) × ((make_by t u L).board ≡ some (fresh 0)) × (spoilt (fresh 0) ≡ true)
    go true u n = (refl, refl, zero_spoilt)
    go false true n = (refl, refl, zero_spoilt)
    go false false n = absurd (n refl)

-- lent with the right tables and a board that is not spoilt, a call does what the rules say
pub call_done : (b : Board) (c : Call) → spoilt b ≡ false → call (record { numbers = table_length; lengths = table_length; board = some b }) c ≡ done! b c
unfolding call
call_done b c e = rw e
