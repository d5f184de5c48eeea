-- Windows one above another.
use Rattle.std.proofs.Common.{◌≡◌, ℕ, zero, suc, ◌+◌, ◌*◌, ◌<◌, ◌≤◌, min, List, [], ◌∷◌, length, get_or, Some, None, Option, sym, refl, ap, ◌∙◌, zero-add, arith}
use Rattle.std.proofs.lemmas.List.FromFn.{length-map-range_with_len}
use Rattle.std.proofs.lemmas.List.{length-take, length-drop, length-map}
use Rattle.std.proofs.lemmas.Bool.{eq-eqb, ne_eqb}
use Rattle.refusals.specs.declared.fault.Fault.{Fault}
use Rattle.stores.specs.Meaning.{Store, count, tile_of, fault_of, worn}
use Rattle.stores.specs.Layers.{raised, window}
use Rattle.stores.specs.Layouts.{image, card_layout, tiles_in}
use Rattle.stores.specs.Stacks.{Windows, stacked, left, below, Stack, WindowsStack}
use Rattle.stores.specs.Images.{image-count, image_fault}
use Rattle.stores.specs.Windows.{window-count, window-below, window_tile, window_fault}

-- a fault n windows further up
lifted : ℕ → Option Fault → Option Fault
lifted zero o = o
lifted (suc n) o = lifted n (raised o)

stacked-count : (ws : Windows) (b : Store) → count (stacked ws b) ≡ left ws (count b)
stacked-count [] b = refl
stacked-count (w ∷ ws) b = stacked-count ws (window w.0 w.1 b) ∙ ap (left ws) (window-count b w.0 w.1)

stacked-below : (ws : Windows) (b : Store) (k : ℕ) → k < count (stacked ws b) → below ws k < count b
stacked-below [] b k h = h
stacked-below (w ∷ ws) b k h = window-below b w.0 w.1 (below ws k) (stacked-below ws (window w.0 w.1 b) k h)

stacked_tile : (ws : Windows) (b : Store) (k : ℕ) → k < count (stacked ws b) → tile_of (stacked ws b) k ≡ tile_of b (below ws k)
stacked_tile [] b k h = refl
stacked_tile (w ∷ ws) b k h =
    stacked_tile ws (window w.0 w.1 b) k h ∙ window_tile b w.0 w.1 (below ws k) (stacked-below ws (window w.0 w.1 b) k h)

faulted_window : (s m : ℕ) (b : Store) → length b.faults ≡ count b → length (window s m b).faults ≡ count (window s m b)
faulted_window s m b e = simp (length-map, length-take, length-drop) (rw e refl)

stacked_fault : (ws : Windows) (b : Store) (k : ℕ) → length b.faults ≡ count b → k < count (stacked ws b) → fault_of (stacked ws b) k ≡ lifted (length ws) (fault_of b (below ws k))
unfolding lifted
stacked_fault [] b k e h = refl
stacked_fault (w ∷ ws) b k e h =
    stacked_fault ws (window w.0 w.1 b) k (faulted_window w.0 w.1 b e) h
    ∙ ap (lifted (length ws)) (window_fault b w.0 w.1 (below ws k) (stacked-below ws (window w.0 w.1 b) k h) e)

lifted_none : (n : ℕ) → lifted n None ≡ None
unfolding lifted
lifted_none zero = refl
lifted_none (suc n) = lifted_none n

-- the level grows by 1 with each window, up to 255
lifted_level : (n cause tile level : ℕ) → level ≤ 255 → lifted n (Some (record { cause = cause; tile = tile; level = level })) ≡ Some (record { cause = cause; tile = tile; level = min (level + n) 255 })
unfolding lifted
lifted_level zero cause tile level h =
    let e : level ≡ min (level + 0) 255 = omega arith in
    ap (λ l. Some (record { cause = cause; tile = tile; level = l })) e
lifted_level (suc n) cause tile level h =
    let e : min (min (level + 1) 255 + n) 255 ≡ min (level + suc n) 255 = omega arith in
    lifted_level n cause tile (min (level + 1) 255) (omega arith) ∙ ap (λ l. Some (record { cause = cause; tile = tile; level = l })) e

module _ (memory : List ℕ) (ws : Windows) where
  abbrev card : Store
  card = image card_layout memory

  card_faults : length card.faults ≡ count card
  card_faults = length-map-range_with_len _ 0 (tiles_in card_layout memory) ∙ sym (image-count card_layout memory)

  fault_is : (k : ℕ) → k < count (stacked ws card) → (o : Option Fault) → card_layout.fault (below ws k) (get_or memory (65 * below ws k) 0) ≡ o → fault_of (stacked ws card) k ≡ lifted (length ws) o
  fault_is k h o e =
      stacked_fault ws card k card_faults h
      ∙ ap (lifted (length ws)) (image_fault card_layout memory (below ws k) (rw (image-count card_layout memory) at (stacked-below ws card k h)) ∙ e)

  stack : Stack memory ws
  stack = record {
    counts = stacked-count ws card;
    within = stacked-below ws card;
    shows = stacked_tile ws card;
    sound = λ k h z. fault_is k h None (rw (eq-eqb (get_or memory (65 * below ws k) 0) 0 z)) ∙ lifted_none (length ws);
    worn = λ k h z. fault_is k h (Some (worn (below ws k))) (rw (ne_eqb (get_or memory (65 * below ws k) 0) 0 z)) ∙ lifted_level (length ws) 11 (below ws k) 0 (omega arith) ∙ ap (λ n. Some (record { cause = 11; tile = below ws k; level = min n 255 })) (zero-add (length ws));
  }

pub windows_stack : WindowsStack
windows_stack memory ws = stack memory ws
