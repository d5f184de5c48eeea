-- What a shelf keeps holds in one way at most, so that a struct can keep it in a ghost field.
use Rattle.std.proofs.Common.{◌≡◌, List, Some, None, Option, sym, refl, ap, ◌∙◌, subst}
use mathlib.Core.Path.{path_j'}
use mathlib.Core.HLevel.{Π_prop}
use native.Mathlib.Bridge.{le_prop}
use base.Stored.{Coded-set, coded_ℕ, coded_list}
use Rattle.refusals.specs.declared.fault.Fault.{Fault}
use Rattle.stores.specs.Meaning.{Store}
use Rattle.shelves.specs.declared.entry.Entry.{Entry}
use Rattle.shelves.specs.Shelves.{Good, Kept}

-- an Option is None in one way at most
abbrev Empty : Option Fault → Type 0
Empty None = Unit {0}
Empty (Some f) = ⊥

empty_prop : (o : Option Fault) → IsProp (Empty o)
empty_prop None u v = refl
empty_prop (Some f) u v = absurd u

none_of : (o : Option Fault) → Empty o → o ≡ None
none_of None u = refl
none_of (Some f) u = absurd u

empty_of : (o : Option Fault) → o ≡ None → Empty o
empty_of o p = subst Empty (sym p) tt

none_again : (o : Option Fault) (p : o ≡ None) → p ≡ none_of o (empty_of o p)
unfolding none_of
none_again o p = path_j' (λ x q. q ≡ none_of x (empty_of x q)) refl p

none_prop : (o : Option Fault) → IsProp (o ≡ None)
none_prop o p q = none_again o p ∙ ap (none_of o) (empty_prop o (empty_of o p) (empty_of o q)) ∙ sym (none_again o q)

good_prop : (b : Store) (e : Entry) → IsProp (Good b e)
good_prop b e p q = λ i. record {
  within = le_prop p.within q.within i;
  sound = none_prop _ p.sound q.sound i;
  wide = Coded-set coded_ℕ _ _ p.wide q.wide i;
  low = Π_prop (λ j. le_prop) p.low q.low i;
  same = Π_prop (λ c. Coded-set (coded_list coded_ℕ) _ _) p.same q.same i;
}

pub kept_prop : (b : Store) (es : List Entry) → IsProp (Kept b es)
kept_prop b es p q = λ i. record {
  few = le_prop p.few q.few i;
  good = Π_prop (λ j. Π_prop (λ l. good_prop b _)) p.good q.good i;
  apart = Π_prop (λ j. Π_prop (λ k. Π_prop (λ l. Π_prop (λ m. Π_prop (λ e. Coded-set coded_ℕ _ _))))) p.apart q.apart i;
}
