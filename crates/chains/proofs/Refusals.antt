-- What a call leaves that is refused, of whatever value and tables: by what the rules say of a refusal, and by how an outcome is written.
use mathlib.Core.Path.{◌≡◌, refl, sym, ap, subst, ◌∙◌}
use mathlib.Core.Bool.{Bool, true, false, cond, ◌&&◌, not}
use mathlib.Core.Logic.{◌⊎◌, inl, inr, ◌≢◌}
use mathlib.Core.Option.{none, some, some-injective, some-ne-none}
use mathlib.Core.List.{List, [], ◌++◌, map}
use Prim.Native.Nat.{ℕ}
use lib.Dec.{eqb, leb}
use lib.ListN.{length, drop}
use Rattle.base.proofs.Numbers.{eqb_true, eqb_no}
use Rattle.rules.specs.Board
use Rattle.rules.specs.Board.{Record, fresh}
use Rattle.rules.specs.Burst.{burst}
use Rattle.rules.specs.Calls.{Single, serve!, one, burst!, Answer, gives, takes, sends, bursts, code_of, Entries, kept, Outcome, wrong_tables, make_by, done! }
use Rattle.rules.specs.Calls.{call, make}
use Rattle.rules.specs.Runs.{play, records_in}
use Rattle.rules.specs.Promises.{KeepsAll, serves}
use Rattle.rules.proofs.Refusals.{call_by, stop_else, burst_codes}
use Rattle.rules.proofs.Promises
use Rattle.board.specs.declared.Board as struct
use Rattle.board.specs.Reading.{encode, view, Sound, is_spelt}
use Rattle.board.proofs.Sound.{spelt_decides}
use Rattle.board.specs.Leaving.{Reply, Returned, returned, ids_after, lens_after, spelt, board_after, written}
use Rattle.calls.specs.Promises.{lent, called, made}
use Rattle.calls.specs.Contract.{Served, BurstReply, served_by, board_or, BurstOutcome, burst_now, bursted_by, called_serve, called_burst}
use Rattle.calls.proofs.Making.{refused_spoilt}
use Rattle.board.specs.Memory.{Holding}
use Rattle.chains.specs.Chains.{is_record, reply_tells, served_tells, Did, by_reply, by_serve}
use Rattle.chains.specs.Demands.{RefusalChangesNothing}

-- ---- Serving changes no entry

abbrev EntriesKept : Outcome → Type 0
EntriesKept o = o.entries ≡ kept

serve_keeps : (b : struct.Board) (ids lens : List ℕ) → EntriesKept (call (lent b ids lens) (one serve!))
serve_keeps b ids lens = call_by (lent b ids lens) (one serve!) EntriesKept (λ code. refl) (λ m e. refl)

burst_keeps : (b : struct.Board) (ids lens : List ℕ) (bytes : ℕ) (list : List ℕ) → EntriesKept (call (lent b ids lens) (burst! bytes list))
burst_keeps b ids lens bytes list = call_by (lent b ids lens) (burst! bytes list) EntriesKept (λ code. refl) (λ m e. refl)

pub serve_tables : (b : struct.Board) (ids lens : List ℕ) → ((called_serve b ids lens).ids ≡ ids) × ((called_serve b ids lens).lens ≡ lens)
unfolding called_serve
serve_tables b ids lens = (ap (λ (e : Entries). ids_after e ids) (serve_keeps b ids lens), ap (λ (e : Entries). lens_after e lens) (serve_keeps b ids lens))

burst_tables : (b : struct.Board) (ids lens : List ℕ) (bytes : ℕ) (list : List ℕ)
    → ((called_burst b ids lens bytes list).ids ≡ ids) × ((called_burst b ids lens bytes list).lens ≡ lens)
unfolding called_burst
burst_tables b ids lens bytes list =
    (ap (λ (e : Entries). ids_after e ids) (burst_keeps b ids lens bytes list), ap (λ (e : Entries). lens_after e lens) (burst_keeps b ids lens bytes list))

-- ---- a single call

hold_same : {s m : Holding} → m.board ≡ s.board → m.ids ≡ s.ids → m.lens ≡ s.lens → m ≡ s
hold_same e f g = λ j. record { board = e j; ids = f j; lens = g j }

-- what a refused outcome of the rules is written as
refused_written : (b : struct.Board) (ids lens : List ℕ) (x : Single) (o : Outcome) → code_of o.answer ≢ 0 → KeepsAll (lent b ids lens) (one x) o
    → ((written b ids lens o).reply.board ≡ b) × ((written b ids lens o).ids ≡ ids) × ((written b ids lens o).lens ≡ lens)
refused_written b ids lens x o n k = (
  ap (λ (a : Answer). board_after b a o.board) k.alone ∙ ap (λ (t : Bool). cond t (spelt b o.board) b) (eqb_no (code_of o.answer) 0 n),
  ap (λ (e : Entries). ids_after e ids) k.entries,
  ap (λ (e : Entries). lens_after e lens) k.entries,
)

-- the code that a reply tells is its own
reply_code : (x : Single) (r : Reply) → code_of (reply_tells x r) ≡ r.code
reply_code x r = go (is_record x) (eqb r.code 0) refl
  where
    go : (t u : Bool) → eqb r.code 0 ≡ u → code_of (cond (t && u) (takes (record { code = 0 })) (gives r.code)) ≡ r.code
    go true true e = sym (eqb_true r.code 0 e)
    go true false e = refl
    go false u e = refl

served_code : (r : Served) → code_of (served_tells r) ≡ r.code
served_code r = go (eqb r.code 0) refl
  where
    go : (t : Bool) → eqb r.code 0 ≡ t
        → code_of (cond t (sends (record { block = r.block; number = r.number; bytes = r.length; clock = r.clock })) (gives r.code)) ≡ r.code
    go true e = sym (eqb_true r.code 0 e)
    go false e = refl

refused_single : (s m : Holding) (x : Single) (a : Answer) → Did s (one x) a m → code_of a ≢ 0 → m ≡ s
unfolding called called_serve
refused_single s m x a (by_reply y e r ids lens p) n =
    let o = call (lent s.board s.ids s.lens) (one y) in
    let no0 : code_of o.answer ≢ 0 = λ z. n (reply_code y r ∙ ap (λ (w : Returned Reply). w.reply.code) p ∙ z) in
    let w = refused_written s.board s.ids s.lens y o no0 (Promises.refusal_keeps_all (lent s.board s.ids s.lens) y no0) in
    hold_same (ap (λ (v : Returned Reply). v.reply.board) p ∙ w.0) (ap (λ (v : Returned Reply). v.ids) p ∙ w.1)
    (ap (λ (v : Returned Reply). v.lens) p ∙ w.2)
refused_single s m x a (by_serve r ids lens p) n =
    let b = s.board in
    let o = call (lent b s.ids s.lens) (one serve!) in
    let t = serve_tables b s.ids s.lens in
    let no0 : code_of o.answer ≢ 0 =
    λ z. n (served_code r ∙ ap (λ (w : Returned Served). w.reply.code) p ∙ code_by b o.answer (board_or (view b s.ids s.lens) o.board) z) in
    let k = Promises.refusal_keeps_all (lent b s.ids s.lens) serve! no0 in
    hold_same
    (ap (λ (v : Returned Served). v.reply.board) p ∙ ap (λ (a : Answer). (served_by b a (board_or (view b s.ids s.lens) o.board)).board) k.alone)
    (ap (λ (v : Returned Served). v.ids) p ∙ t.0)
    (ap (λ (v : Returned Served). v.lens) p ∙ t.1)
  where
    -- an answer of code 0 is written with code 0
    code_by : (b : struct.Board) (a : Answer) (m : Board.Board) → code_of a ≡ 0 → (served_by b a m).code ≡ 0
    code_by b (gives code) m z = z
    code_by b (takes t) m z = refl
    code_by b (sends t) m z = refl
    code_by b (bursts t) m z = refl

-- ---- a burst

-- none was sent, so no number was written and the board is the one that was given
none_sent : (m : Board.Board) (bytes room : ℕ) → (burst m bytes room).count ≡ 0 → ((burst m bytes room).next ≡ m) × ((burst m bytes room).numbers ≡ [])
unfolding play records_in
none_sent m bytes room z =
    let i = Promises.burst_is_serves m bytes room in
    (i.next ∙ ap (λ (n : ℕ). play m (serves n)) z, i.numbers ∙ ap (λ (n : ℕ). map (λ (x : Record). x.number) (records_in m (serves n))) z)

-- what is lent is the board that the value spells
lent_some : (b : struct.Board) (ids lens : List ℕ) (m : Board.Board) → (lent b ids lens).board ≡ some m → encode m ≡ b
lent_some b ids lens m = go (is_spelt b ids lens) refl
  where
    go : (t : Bool) → is_spelt b ids lens ≡ t → cond t (some (view b ids lens)) none ≡ some m → encode m ≡ b
    go true e q = ap encode (sym (some-injective (view b ids lens) m q)) ∙ (spelt_decides b ids lens).yes e
    go false e q = absurd (some-ne-none m (sym q))

abbrev BurstKept : struct.Board → List ℕ → Outcome → Type 0
BurstKept b list o =
    let w = bursted_by b o.answer o.board o.list in
    (w.answer.code ≡ 3) ⊎ ((w.answer.code ≡ 2) ⊎ (w.answer.count ≡ 0)) → (w.answer.board ≡ b) × (w.list ≡ list)

burst_kept : (b : struct.Board) (ids lens : List ℕ) (bytes : ℕ) (list : List ℕ) → BurstKept b list (call (lent b ids lens) (burst! bytes list))
burst_kept b ids lens bytes list = call_by (lent b ids lens) (burst! bytes list) (BurstKept b list) (λ code w. (refl, refl)) does
  where
    does : (m : Board.Board) → (lent b ids lens).board ≡ some m → BurstKept b list (done! m (burst! bytes list))
    does m e (inl z) = absurd (stop_else (burst m bytes (length list)).code (burst_codes m bytes (length list)) (inl z))
    does m e (inr (inl z)) = absurd (stop_else (burst m bytes (length list)).code (burst_codes m bytes (length list)) (inr z))
    does m e (inr (inr z)) = let n = none_sent m bytes (length list) z in
        (ap encode n.0 ∙ lent_some b ids lens m e, ap (λ (l : List ℕ). l ++ drop (length l) list) n.1)

refused_burst : (s : Holding) (bytes : ℕ) (list : List ℕ) (r : BurstReply) (list' ids lens : List ℕ)
    → returned (burst_now r list') ids lens ≡ called_burst s.board s.ids s.lens bytes list
    → (r.code ≡ 3) ⊎ ((r.code ≡ 2) ⊎ (r.count ≡ 0))
    → (r.board ≡ s.board) × (ids ≡ s.ids) × (lens ≡ s.lens) × (list' ≡ list)
unfolding called_burst
refused_burst s bytes list r list' ids lens p c = (
  ap (λ (w : Returned BurstOutcome). w.reply.answer.board) p ∙ k.0,
  ap (λ (w : Returned BurstOutcome). w.ids) p ∙ t.0,
  ap (λ (w : Returned BurstOutcome). w.lens) p ∙ t.1,
  ap (λ (w : Returned BurstOutcome). w.reply.list) p ∙ k.1,
)
  where
    given : Returned BurstOutcome
    given = called_burst s.board s.ids s.lens bytes list

    t : (given.ids ≡ s.ids) × (given.lens ≡ s.lens)
    t = burst_tables s.board s.ids s.lens bytes list

    moved : (r.code ≡ 3) ⊎ ((r.code ≡ 2) ⊎ (r.count ≡ 0))
        → (given.reply.answer.code ≡ 3) ⊎ ((given.reply.answer.code ≡ 2) ⊎ (given.reply.answer.count ≡ 0))
    moved (inl z) = inl (ap (λ (w : Returned BurstOutcome). w.reply.answer.code) (sym p) ∙ z)
    moved (inr (inl z)) = inr (inl (ap (λ (w : Returned BurstOutcome). w.reply.answer.code) (sym p) ∙ z))
    moved (inr (inr z)) = inr (inr (ap (λ (w : Returned BurstOutcome). w.reply.answer.count) (sym p) ∙ z))

    k : (given.reply.answer.board ≡ s.board) × (given.reply.list ≡ list)
    k = burst_kept s.board s.ids s.lens bytes list (moved c)

-- ---- a making

refused_making_lem : (L : ℕ) (ids lens : List ℕ) (r : Reply) (ids' lens' : List ℕ) → returned r ids' lens' ≡ made ids lens L → r.code ≢ 0
    → (ids' ≡ ids) × (lens' ≡ lens) × (r.board ≡ encode (fresh 0)) × ((is ls : List ℕ) → Sound r.board is ls → ⊥)
unfolding made make
refused_making_lem L ids lens r ids' lens' p n =
    let no0 : (made ids lens L).reply.code ≢ 0 = λ z. n (ap (λ (w : Returned Reply). w.reply.code) p ∙ z) in
    let k = go (wrong_tables (length ids) (length lens)) (not (leb 64 L && leb L 2048)) no0 in
    let board = ap (λ (w : Returned Reply). w.reply.board) p in (
      ap (λ (w : Returned Reply). w.ids) p ∙ k.0,
      ap (λ (w : Returned Reply). w.lens) p ∙ k.1,
      board ∙ k.2,
      λ is ls sound. refused_spoilt ids lens L no0 is ls (subst (λ (b : struct.Board). Sound b is ls) board sound),
    )
  where
    go : (t u : Bool) → (let w = written (encode (fresh 0)) ids lens (make_by t u L) in w.reply.code ≢ 0
        → (w.ids ≡ ids) × (w.lens ≡ lens) × (w.reply.board ≡ encode (fresh 0)))
    go true u z = (refl, refl, refl)
    go false true z = (refl, refl, refl)
    go false false z = absurd (z refl)

pub refusal_changes_nothing : RefusalChangesNothing
refusal_changes_nothing = record { single = refused_single; burst = refused_burst; making = refused_making_lem }
