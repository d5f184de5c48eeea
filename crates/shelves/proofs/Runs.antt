-- The law of runs of calls on a shelf.
use Rattle.std.proofs.Common.{◌≡◌, ℕ, ◌+◌, ◌<◌, ◌≤◌, min, cond, List, [], ◌∷◌, ◌++◌, length, drop, is_some, Some, None, Ok, Err, Option, Result, sym, refl, ap, ◌∙◌, inl, inr, arith}
use Rattle.std.proofs.lemmas.Bool.{cases_Bool, cases_lt, lt-ltb, cond-true}
use Rattle.std.proofs.lemmas.List.{get_or_past}
use Rattle.refusals.specs.declared.fault.Fault.{Fault}
use Rattle.stores.specs.Meaning.{Store, Lawful, count, tile_of, read, write}
use Rattle.shelves.specs.declared.entry.Entry.{Entry}
use Rattle.shelves.specs.Shelves.{Shelved, place_of, written_back, touched_at, settled, shelf_store, store_of, Kept, fetch_accesses, touch_accesses_at, touch_accesses, writes_back}
use Rattle.shelves.specs.Shelves as shelves
use Rattle.shelves.specs.Touches.{on, fetched, fetches, tiles_of}
use Rattle.shelves.specs.Runs.{ShelfCall, reading, writing, settling, called, touched_by, plainly, ran_calls, run_touches, ran_plainly, reads, ShelfLaw}
use Rattle.shelves.proofs.Keeping.{kept_drop}
use Rattle.shelves.proofs.Showing.{written_back_top, written_back_count, written_back_faults, written_back_shown, shelf_count, shelf_tile, shelf_lawful}
use Rattle.shelves.proofs.Settling.{kept_settled, settled_same, settled-below}
use Rattle.shelves.proofs.Touching.{touched_as, touched_kept, accepted-within, accepted_sound, read_sound}
use Rattle.shelves.proofs.Writing.{wrote_as, wrote_kept}
use Rattle.shelves.proofs.Fetches.{few_fetches}
use Rattle.shelves.proofs.Tiles.{touched_tiles, touched-fetches, on-place, over_tiles, cleaned_tiles}

-- the store below stays lawful as tiles of the list are written to it
lawful_back : (b : Store) (es : List Entry) → Lawful b → Kept b es → Lawful (written_back b es)
lawful_back b es l kept =
    let s = shelf_lawful es b l kept in
    let t : (k : ℕ) → k < count b → tile_of (written_back b es) k ≡ tile_of (shelf_store es b) k = λ k h. written_back_shown b es k kept ∙ sym (shelf_tile es b k h) in
    record {
      wide = λ k h. let w : k < count b = rw (written_back_count b es) at h in ap length (t k w) ∙ s.wide k (rw (shelf_count es b) w);
      low = λ k i. elim (cases_lt k (count b)) [
        | inl h ↦ rw (t k h, written_back_top b es) (s.low k i)
        | inr h ↦ rw (get_or_past (written_back b es).tiles k [] (rw (written_back_count b es) h)) (omega arith)
      ];
      byte = rw (written_back_top b es) l.byte;
      few = rw (written_back_count b es) l.few;
      faulted = ap length (written_back_faults b es) ∙ l.faulted ∙ sym (written_back_count b es);
    }

lawful_at : (o : Option ℕ) (h : Shelved) (k : ℕ) → Lawful h.below → Kept h.below h.list → Lawful (touched_at o h k).below
lawful_at None h k l kept = lawful_back h.below (drop 63 h.list) l (kept_drop h.below h.list 63 kept)
lawful_at (Some p) h k l kept = l

-- what one call keeps, means and counts
record Stepped (h : Shelved) (c : ShelfCall) : Type 0 where
  lawful : Lawful (called h c).below
  kept : Kept (called h c).below (called h c).list
  means : store_of (called h c) ≡ plainly (store_of h) c
  made : ℕ
  counts : (called h c).fetches ≡ min (h.fetches + made) 18446744073709551615
  onward : (ls : List ℕ) → fetches (tiles_of h.list) (touched_by h c ++ ls) ≡ made + fetches (tiles_of (called h c).list) ls

module _ (h : Shelved) (l : Lawful h.below) (kept : Kept h.below h.list) (small : h.fetches ≤ 18446744073709551615) where
  touch_counts : (k : ℕ) → (shelves.touched h k).fetches ≡ min (h.fetches + fetched (tiles_of h.list) k) 18446744073709551615
  touch_counts k = touched-fetches h k kept.few ∙ elim (cases_Bool (on (tiles_of h.list) k)) [ inl t ↦ rw t (omega arith) | inr t ↦ rw t refl ]

  read_step : (k : ℕ) (r : Result (Unit {0}) Fault) → r ≡ read (store_of h) k → Stepped h (reading k)
  read_step k (Ok u) e = record {
    lawful = rw (sym e) (lawful_at (place_of h.list k) h k l kept);
    kept = touched_kept h k l kept (read (store_of h) k) (called h (reading k)) refl refl;
    means = (touched_as h k l kept (read (store_of h) k) (called h (reading k)) refl refl).same;
    made = fetched (tiles_of h.list) k;
    counts = rw (sym e) (touch_counts k);
    onward = λ ls. rw (sym e) (ap (λ z. fetched (tiles_of h.list) k + fetches z ls) (sym (touched_tiles h k kept.few)));
  }
  read_step k (Err f) e = record {
    lawful = rw (sym e) l;
    kept = rw (sym e) kept;
    means = rw (sym e) refl;
    made = 0;
    counts = rw (sym e) (omega arith);
    onward = λ ls. rw (sym e) (omega arith);
  }

  write_step : (k : ℕ) (bytes : List ℕ) (wide : length bytes ≡ 64) (r : Result (Unit {0}) Fault) → r ≡ write (store_of h) k bytes → Stepped h (writing k bytes wide)
  write_step k bytes wide (Ok u) e = record {
    lawful = rw (sym e) (lawful_at (place_of h.list k) h k l kept);
    kept = wrote_kept h l kept k bytes wide (write (store_of h) k bytes) (called h (writing k bytes wide)) refl refl;
    means = (wrote_as h l kept k bytes wide (write (store_of h) k bytes) (called h (writing k bytes wide)) refl refl).means;
    made = fetched (tiles_of h.list) k;
    counts = rw (sym e) (touch_counts k);
    onward = λ ls. rw (sym e) (ap (λ z. fetched (tiles_of h.list) k + fetches z ls) (sym (over_tiles (shelves.touched h k).list bytes ∙ touched_tiles h k kept.few)));
  }
  write_step k bytes wide (Err f) e = record {
    lawful = rw (sym e) l;
    kept = rw (sym e) kept;
    means = rw (sym e) refl;
    made = 0;
    counts = rw (sym e) (omega arith);
    onward = λ ls. rw (sym e) (omega arith);
  }

  step : (c : ShelfCall) → Stepped h c
  step (reading k) = read_step k (read (store_of h) k) refl
  step (writing k bytes wide) = write_step k bytes wide (write (store_of h) k bytes) refl
  step settling = record {
    lawful = lawful_back h.below h.list l kept;
    kept = kept_settled h.below h.list kept;
    means = settled_same h kept;
    made = 0;
    counts = omega arith;
    onward = λ ls. rw (cleaned_tiles h.list) (omega arith);
  }

-- what holds of a run, but for the bound on its fetches
record Ran (h : Shelved) (cs : List ShelfCall) : Type 0 where
  kept : Kept (ran_calls h cs).below (ran_calls h cs).list
  means : store_of (ran_calls h cs) ≡ ran_plainly (store_of h) cs
  counts : (ran_calls h cs).fetches ≡ min (h.fetches + fetches (tiles_of h.list) (run_touches h cs)) 18446744073709551615

run : (h : Shelved) → Lawful h.below → Kept h.below h.list → h.fetches ≤ 18446744073709551615 → (cs : List ShelfCall) → Ran h cs
run h l kept small [] = record { kept = kept; means = refl; counts = omega arith }
run h l kept small (c ∷ cs) =
    let s = step h l kept small c in
    let rest = run (called h c) s.lawful s.kept (omega (arith, s.counts)) cs in
    record {
      kept = rest.kept;
      means = rest.means ∙ ap (λ (z : Store). ran_plainly z cs) s.means;
      counts = omega (arith, rest.counts, s.counts, s.onward (run_touches (called h c) cs));
    }

-- an accepted touch reads below exactly if its tile is not on the list
reads_back : (es : List Entry) → reads (writes_back es) ≡ 0
reads_back [] = refl
reads_back (e ∷ es) = elim (cases_Bool e.changed) [ inl t ↦ rw t (reads_back es) | inr t ↦ rw t (reads_back es) ]

reads_at : (o : Option ℕ) (h : Shelved) (k : ℕ) → Lawful h.below → k < count h.below → read h.below k ≡ Ok tt → reads (touch_accesses_at o h k) ≡ cond (is_some o) 0 1
reads_at None h k l w e = ap reads (cond-true _ _ _ (lt-ltb k (count h.below) w) ∙ ap (λ z. fetch_accesses z h k) e) ∙ ap (λ n. 1 + n) (reads_back (drop 63 h.list))
reads_at (Some p) h k l w e = refl

fetch_reads : (h : Shelved) → Lawful h.below → Kept h.below h.list → (k : ℕ) → read (store_of h) k ≡ Ok tt → reads (touch_accesses h k) ≡ fetched (tiles_of h.list) k
fetch_reads h l kept k e =
    let w = accepted-within h.list h.below k l e in
    reads_at (place_of h.list k) h k l w (read_sound h.below k w (accepted_sound h.list h.below k l e))
    ∙ ap (λ z. cond z 0 1) (sym (on-place h.list k))

pub shelf_law : ShelfLaw
shelf_law = record {
  few = few_fetches;
  fetches = fetch_reads;
  runs = λ h l kept small cs.
      let r = run h l kept small cs in
      record {
        kept = r.kept;
        means = r.means;
        below = settled-below (ran_calls h cs) r.kept ∙ ap (λ (z : Store). z.tiles) r.means;
        fetches = r.counts;
        few = λ n. omega (arith, r.counts, few_fetches (tiles_of h.list) (run_touches h cs) n);
      };
}
