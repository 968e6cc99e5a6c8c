-- What is known of a field by what is kept of it and the part that comes next is known of the whole log. Assumes nothing.
use mathlib.Core.Path.{◌≡◌, refl, sym, ap, subst, ◌∙◌}
use mathlib.Core.Logic.{◌⊎◌, inl, inr}
use mathlib.Core.List.{List, [], ◌++◌}
use Prim.Native.Nat.{ℕ, ◌+◌, ◌-◌, ◌≤◌, ◌<◌, min}
use native.Mathlib.Omega.{arith}
use lib.ListN.{length, take, drop, get_or, length-append, length-drop}
use lib.Seq.{get_or-drop, drop-drop, take_all}
use Rattle.base.proofs.Numbers.{split}
use Rattle.log_bytes.specs.declared.Stage.{Stage}
use Rattle.log_bytes.specs.declared.Event.{Event}
use Rattle.log_bytes.specs.declared.End.{End}
use Rattle.log_bytes.specs.declared.Next.{Next}
use Rattle.log_bytes.specs.declared.Next.TheVariants.{GoesOn, Ends, Unfinished}
use Rattle.log_bytes.specs.Format.{tag_in, length_in, stage_after, next_in}
use Rattle.log_bytes.specs.Rows.{and_then, next_of, follow, read_from}
use Rattle.log_bytes.specs.Laws.{LooksAt}
use Rattle.log_bytes.proofs.Fields.{stays_known, known_by_looks, number_looks}
use Rattle.log_bytes.proofs.Wholes.{whole_is, part_is}
use Rattle.log_bytes.proofs.Readings.{read_step}
use Rattle.fragments.specs.Kept.{kept_bytes, kept_of, wanted_of, Behind, FirstKept}
use Rattle.fragments.specs.Reading.{joined, GoesOnWith, KeptOn, ReadOn}
use Rattle.fragments.proofs.Kept.{front, kept_length, kept_none, kept_of_small, kept_of_in, looks_on, rest_joined, looks_kept, rest_kept}
use Rattle.fragments.proofs.Kept.{part_most, wants_some, wants_few}

-- ---- logs that are looked at alike are read alike

alike_next : (at : ℕ) (a b : List ℕ) (stage : Stage) → length a ≡ length b → LooksAt (length a) a b → next_of at a stage ≡ next_of at b stage
unfolding next_of
alike_next at a b stage l h = known_by_looks at a b (length a) stage h ∙ ap (λ (n : ℕ). next_in at b n stage) l

pub alike_read : (at : ℕ) (a b : List ℕ) (came : ℕ) (stage : Stage) → length a ≡ length b → LooksAt (length a) a b → drop came a ≡ drop came b
    → next_in at a came stage ≡ Unfinished came → read_from at a stage ≡ read_from at b stage
unfolding next_of
alike_read at a b came stage l h d p =
    read_step at a stage ∙ go (next_of at a stage) refl ∙ ap (follow read_from at b stage) (alike_next at a b stage l h) ∙ sym (read_step at b stage)
  where
    go : (x : Next) → next_of at a stage ≡ x → follow read_from at a stage x ≡ follow read_from at b stage x
    go (GoesOn e size) q =
        ap (λ (z : List ℕ). and_then (record { offset = at; event = e; next = at + size }) (read_from (at + size) z (stage_after stage e))) rest
      where
        beyond : came ≤ size
        beyond = omega (arith, (whole_is at a (length a) stage e size q).size, (part_is at a came stage came p).has)

        rest : drop size a ≡ drop size b
        rest =
            let e : came + (size - came) ≡ size = omega (arith, beyond) in
            ap (λ (k : ℕ). drop k a) (sym e) ∙ sym (drop-drop (size - came) came a) ∙ ap (drop (size - came)) d
            ∙ drop-drop (size - came) came b ∙ ap (λ (k : ℕ). drop k b) e
    go (Ends e) q = refl
    go (Unfinished n) q = refl

-- what is known of a field by fewer bytes than there are is what stands there
known_of : (at : ℕ) (bytes log : List ℕ) (came : ℕ) (stage : Stage) (x : Next) → LooksAt came bytes log → came ≤ length log → next_in at bytes came stage ≡ x
    → (x ≡ Unfinished came → ⊥) → next_of at log stage ≡ x
unfolding next_of
known_of at bytes log came stage x h l q known =
    let same : next_in at log came stage ≡ x = sym (known_by_looks at bytes log came stage h) ∙ q in
    stays_known at log came (length log) stage l (λ u. known (sym same ∙ u)) ∙ same

pub whole_part : {e : Event} {size came : ℕ} → GoesOn e size ≡ Unfinished came → ⊥
whole_part q = cc

pub ends_part : {e : End} {came : ℕ} → Ends e ≡ Unfinished came → ⊥
ends_part q = cc

-- ---- what is known behind the bytes that are kept

module _ (at : ℕ) (stage : Stage) (kept : List ℕ) (came : ℕ) (part : List ℕ) (now tag : ℕ) (room : length kept ≡ 13) (fits : now ≤ came + length part)
    (onward : came < now) where
  joined_length : (later : List ℕ) → length (joined kept came part later) ≡ came + (length part + length later)
  joined_length later = omega (arith, length-append (kept_bytes kept came) (part ++ later), length-append part later, kept_length kept came)

  -- where it is known by a list that is looked at alike
  module _ (bytes : List ℕ) (looks : (later : List ℕ) → LooksAt now bytes (joined kept came part later)) where
    pub known_goes : (e : Event) (size : ℕ) → next_in at bytes now stage ≡ GoesOn e size → came < size → GoesOnWith at stage kept came part e size
    known_goes e size q l =
        let w = whole_is at bytes now stage e size q in
        record {
          begins = l;
          ends = omega (arith, w.has, fits);
          small = omega (arith, w.size);
          low = w.low;
          turn = w.turn;
          is =
              λ later. known_of at bytes (joined kept came part later) now stage (GoesOn e size) (looks later)
              (omega (arith, joined_length later, fits)) q whole_part;
        }

    pub known_ends : (e : End) → next_in at bytes now stage ≡ Ends e → (later : List ℕ) → next_of at (joined kept came part later) stage ≡ Ends e
    known_ends e q later =
        known_of at bytes (joined kept came part later) now stage (Ends e) (looks later) (omega (arith, joined_length later, fits)) q ends_part

  -- and where it is not finished
  module _ (after : List ℕ) (few : tag < 128 → now ≤ 13) (tagged : tag_in after ≡ tag) (b : Behind kept came part (kept_of tag now) after)
      (q : next_in at after now stage ≡ Unfinished now) where
    pub known_part : KeptOn at stage kept came part now after
    known_part = record { moves = onward; ends = fits; fit = q; same = b.same; is = read }
      where
        here : (later : List ℕ) → List ℕ
        here later = joined after now (drop (now - came) part) later

        rests : (later : List ℕ) → drop now (joined kept came part later) ≡ drop now (here later)
        rests later = rest_joined kept came part later now (omega (arith, onward)) fits ∙ sym (rest_kept after now (drop (now - came) part ++ later))

        sizes : (later : List ℕ) → length (joined kept came part later) ≡ length (here later)
        sizes later =
            omega (
              arith,
              joined_length later,
              length-append (kept_bytes after now) (drop (now - came) part ++ later),
              length-append (drop (now - came) part) later,
              length-drop (now - came) part,
              kept_length after now,
              onward,
              fits,
            )

        -- before what is kept now ends they are looked at alike, and behind it they are the same
        looks : (later : List ℕ) → LooksAt (length (joined kept came part later)) (joined kept came part later) (here later)
        looks later i l h = go (split now i)
          where
            first : get_or after 0 0 ≡ get_or (joined kept came part later) 0 0
            first = looks_on kept came part now tag after room few fits tagged b later 0 (omega (arith, onward)) (inl (omega arith))

            look : (i < 3) ⊎ (tag_in (joined kept came part later) < 128) → (i < 3) ⊎ (tag_in after < 128)
            look (inl k) = inl k
            look (inr k) = inr (omega (arith, k, first))

            go : (now ≤ i) ⊎ (i < now) → get_or (joined kept came part later) i 0 ≡ get_or (here later) i 0
            go (inl k) =
                let e : now + (i - now) ≡ i = omega (arith, k) in
                ap (λ (j : ℕ). get_or (joined kept came part later) j 0) (sym e) ∙ sym (get_or-drop now (joined kept came part later) (i - now) 0)
                ∙ ap (λ (z : List ℕ). get_or z (i - now) 0) (rests later) ∙ get_or-drop now (here later) (i - now) 0
                ∙ ap (λ (j : ℕ). get_or (here later) j 0) e
            go (inr k) =
                sym (looks_on kept came part now tag after room few fits tagged b later i k (look h))
                ∙ looks_kept after now (drop (now - came) part ++ later) (b.same ∙ room) (λ t. few (omega (arith, t, tagged))) i k (look h)

        read : (later : List ℕ) → read_from at (joined kept came part later) stage ≡ read_from at (here later) stage
        read later =
            alike_read at (joined kept came part later) (here later) now stage (sizes later) (looks later) (rests later)
            (sym (known_by_looks at after (joined kept came part later) now stage (looks_on kept came part now tag after room few fits tagged b later)) ∙ q)

-- ---- what is read first, and what is read behind it

-- all is known but where it is not finished
known_on : (at : ℕ) (stage : Stage) (kept : List ℕ) (came : ℕ) (part bytes : List ℕ) (now : ℕ) (next : Next) (after : List ℕ) → length kept ≡ 13
    → now ≤ came + length part → came < now → ((later : List ℕ) → LooksAt now bytes (joined kept came part later)) → next ≡ next_in at bytes now stage
    → ((e : Event) (size : ℕ) → next_in at bytes now stage ≡ GoesOn e size → came < size)
    → ((n : ℕ) → next ≡ Unfinished n → KeptOn at stage kept came part n after) → length after ≡ length kept
    → ReadOn at stage kept came part next after
known_on at stage kept came part bytes now next after room! fits onward looks is begins more! same = record {
  goes = λ e size q. known_goes at stage kept came part now 0 room! fits onward bytes looks e size (sym is ∙ q) (begins e size (sym is ∙ q));
  ends = λ e q. known_ends at stage kept came part now 0 room! fits onward bytes looks e (sym is ∙ q);
  more = more!;
  room = same;
}

-- where the part ends in a field, so many bytes are kept as there is room for
first_few : (at : ℕ) (stage : Stage) (part : List ℕ) (next : Next) → next ≡ next_in at part (length part) stage → (n : ℕ) → next ≡ Unfinished n
    → (n ≡ length part) × (tag_in part < 128 → n ≤ 13)
first_few at stage part next is n q =
    let same = (part_is at part (length part) stage n (sym is ∙ q)).same in
    (same, λ t. omega (arith, part_most at part (length part) stage (sym is ∙ q ∙ ap Unfinished same) t, same))

module _ (at : ℕ) (stage : Stage) (kept part : List ℕ) (next : Next) (room : length kept ≡ 13) (some : 0 < length part)
    (is : next ≡ next_in at part (length part) stage) where
  looks_first : (later : List ℕ) → LooksAt (length part) part (joined kept 0 part later)
  looks_first later i l h = sym (ap (λ (z : List ℕ). get_or z i 0) (kept_none kept (part ++ later)) ∙ front part later i l)

  -- some of its bytes have come, and it has three at least
  begins_first : (e : Event) (size : ℕ) → next_in at part (length part) stage ≡ GoesOn e size → 0 < size
  begins_first e size q = omega (arith, (whole_is at part (length part) stage e size q).size)

  pub first_read : (after : List ℕ) → FirstKept kept part after → ReadOn at stage kept 0 part next after
  first_read after k =
      known_on at stage kept 0 part part (length part) next after room (omega arith) some looks_first is begins_first
      (λ m h. known_part at stage kept 0 part m (tag_in part) room (fits m h) (onward m h) after (λ t. (first_few at stage part next is m h).1 t) (tagged m h)
      (behind m h) (unfinished m h)) k.same
    where
      fits : (m : ℕ) → next ≡ Unfinished m → m ≤ 0 + length part
      fits m h = omega (arith, (first_few at stage part next is m h).0)

      onward : (m : ℕ) → next ≡ Unfinished m → 0 < m
      onward m h = omega (arith, (first_few at stage part next is m h).0, some)

      -- all of the part has come of it, and is kept as far as it is ever kept
      behind : (m : ℕ) → next ≡ Unfinished m → Behind kept 0 part (kept_of (tag_in part) m) after
      behind m h =
          let few = first_few at stage part next is m h in
          let small = (kept_of_small (tag_in part) m few.1).0 in
          subst (λ (n : ℕ). Behind kept 0 part (kept_of (tag_in part) n) after) (sym few.0)
          (k.first (subst (λ (n : ℕ). kept_of (tag_in part) n ≤ 13) few.0 small))

      tagged : (m : ℕ) → next ≡ Unfinished m → tag_in after ≡ tag_in part
      tagged m h = (behind m h).behind 0 (omega arith) (kept_of_in (tag_in part) m 0 (onward m h) (inl (omega arith)))

      unfinished : (m : ℕ) → next ≡ Unfinished m → next_in at after m stage ≡ Unfinished m
      unfinished m h =
          let alike = looks_on kept 0 part m (tag_in part) after room (first_few at stage part next is m h).1 (fits m h) (tagged m h) (behind m h) [] in
          known_by_looks at after (joined kept 0 part []) m stage alike
          ∙ sym (known_by_looks at part (joined kept 0 part []) m stage (λ i l. looks_first [] i (omega (arith, l, (first_few at stage part next is m h).0))))
          ∙ ap (λ (k : ℕ). next_in at part k stage) (first_few at stage part next is m h).0 ∙ sym is ∙ h

-- Behind what is kept so many bytes more are read as the field wants and the part has.
module _ (at : ℕ) (stage : Stage) (kept : List ℕ) (came : ℕ) (part : List ℕ) (wanted more : ℕ) (room : length kept ≡ 13)
    (p : next_in at kept came stage ≡ Unfinished came) (w : wanted ≡ wanted_of kept came) (m : more ≡ min wanted (length part)) where
  abbrev now : ℕ
  now = came + more

  few : tag_in kept < 128 → came + more ≤ 13
  few t = omega (arith, wants_few at kept came stage p t, w, m)

  pub rest_fits : (count : ℕ) → count ≡ kept_of (tag_in kept) (came + more) → (count ≤ length kept) × (count ≤ came + length part)
  rest_fits count e =
      let small = kept_of_small (tag_in kept) (came + more) few in
      (omega (arith, e, small.0, room), omega (arith, e, small.1, m))

  pub read_behind : 0 < came → 0 < length part → (count : ℕ)
      → count ≡ kept_of (tag_in kept) (came + more) → (after : List ℕ) (next : Next) → Behind kept came part count after
      → next ≡ next_in at after (came + more) stage
      → ReadOn at stage kept came part next after
  read_behind some bytes count k after next b₀ is =
      known_on at stage kept came part after now next after room fits onward (looks_on kept came part now (tag_in kept) after room few fits tagged b) is begins
      more! b.same
    where
      b : Behind kept came part (kept_of (tag_in kept) (came + more)) after
      b = subst (λ (x : ℕ). Behind kept came part x after) k b₀

      onward : came < now
      onward = omega (arith, m, w, wants_some at kept came stage p, bytes)

      fits : now ≤ came + length part
      fits = omega (arith, m)

      tagged : tag_in after ≡ tag_in kept
      tagged = b.before 0 some

      -- a field that was not finished does not end before the bytes that had come
      begins : (e : Event) (size : ℕ) → next_in at after now stage ≡ GoesOn e size → came < size
      begins e size q = go (split 3 came)
        where
          whole : size ≡ 3 + length_in after
          whole = (whole_is at after now stage e size q).size

          go : (3 ≤ came) ⊎ (came < 3) → came < size
          go (inr l) = omega (arith, l, whole)
          go (inl l) =
              let same : length_in after ≡ length_in kept = number_looks after kept 1 2 (λ j u v. b.before j (omega (arith, u, l))) in
              omega (arith, whole, same, (part_is at kept came stage came p).has)

      more! : (n : ℕ) → next ≡ Unfinished n → KeptOn at stage kept came part n after
      more! n h =
          let q : next_in at after now stage ≡ Unfinished n = sym is ∙ h in
          let e : n ≡ now = (part_is at after now stage n q).same in
          subst (λ (k : ℕ). KeptOn at stage kept came part k after) (sym e)
          (known_part at stage kept came part now (tag_in kept) room fits onward after few tagged b (q ∙ ap Unfinished e))

-- ---- at the log's end what is kept is all that has come

pub kept_next : (at : ℕ) (kept : List ℕ) (came : ℕ) (stage : Stage) → length kept ≡ 13 → next_in at kept came stage ≡ Unfinished came
    → next_of at (kept_bytes kept came ++ []) stage ≡ Unfinished came
unfolding next_of
kept_next at kept came stage room p =
    let bytes = kept_bytes kept came ++ [] in
    let size : length bytes ≡ came = omega (arith, length-append (kept_bytes kept came) [], kept_length kept came) in
    ap (λ (n : ℕ). next_in at bytes n stage) size
    ∙ sym (known_by_looks at kept bytes came stage (looks_kept kept came [] room (part_most at kept came stage p))) ∙ p

-- ---- a fragment from where it is not taken on

pub from_taken : (fragment : List ℕ) (taken : ℕ) → take (length fragment - taken) (drop taken fragment) ≡ drop taken fragment
from_taken fragment taken = take_all (length fragment - taken) (drop taken fragment) (omega (arith, length-drop taken fragment))
