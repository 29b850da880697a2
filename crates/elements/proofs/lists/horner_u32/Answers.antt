use Rattle.std.proofs.Common.{◌≡◌, rules, List, [], ◌∷◌, ◌++◌, map, reverse, refl, sym, ap, ◌∙◌}
use mathlib.Core.List.{map-map, reverse-cons}
use Rattle.std.proofs.lemmas.List.{map_push}
use Rattle.elements.specs.KindRing.{ring_of}
use Rattle.elements.specs.Folds.{fold_reverse, fold_back_more}
use Rattle.elements.specs.Kind.{Kind, evaluated}
use Rattle.elements.specs.Operations.{CommutativeRing, operations}
use Rattle.elements.specs.RingFacts.{times_zero, zero_plus}
use Rattle.elements.specs.Sums.{fold}
use Rattle.elements.proofs.lists.horner_u32.Goals as goal

map_reverse : {A B : Type 0} (f : A → B) (xs : List A) → map f (reverse xs) ≡ reverse (map f xs)
map_reverse f [] = refl
map_reverse f (x ∷ xs) =
    ap (map f) (reverse-cons x xs) ∙ map_push f (reverse xs) x ∙ ap (λ ys. ys ++ (f x ∷ [])) (map_reverse f xs)
    ∙ sym (reverse-cons (f x) (map f xs))

-- from the last of a list on, and from 0
from_last : {R : Type 0} (k : Kind R) (l : CommutativeRing (operations k)) (y c : R) (cs : List R) → fold k y c (reverse cs) ≡ evaluated k y (cs ++ (c ∷ []))
from_last k l y c cs =
    let first : k.plus (k.times k.zero y) c ≡ c
    = ap (λ z. k.plus z c) (l.times_comm k.zero y ∙ times_zero (operations k) l y) ∙ zero_plus (operations k) l c in
    ap (λ a. fold k y a (reverse cs)) (sym first)
    ∙ sym (fold_back_more k y k.zero (cs ++ (c ∷ [])) cs c refl)
    ∙ fold_reverse k l y (cs ++ (c ∷ []))

pub returns : goal.returns
returns g c =
    let k = g.E.Field.kind in
    let ns = c.in-Some.rest.now in
    let p = c.fold_from.ensures in
    let q = c.map.ensures.runs p.0 p.0.seen p.1 in
    let elements = q.2.3 (λ n. k.embed n.now) (λ n r f h. search rules) in
    let numbers : map (λ n. n.now) q.0.items ≡ reverse ns = search rules in
    let whole : c.args.coefficients.now ≡ ns ++ (c.in-Some.highest.now ∷ []) = c.in-Some.ensures.cases.0 in
    p.3
    ∙ ap (λ a. fold k c.args.point a p.0.items) c.from_u32-first.ensures
    ∙ ap (fold k c.args.point (k.embed c.in-Some.highest.now))
    (elements ∙ sym (map-map k.embed (λ n. n.now) q.0.items) ∙ ap (map k.embed) numbers ∙ map_reverse k.embed ns)
    ∙ from_last k (ring_of k g.met.E.Field.lawful.ring) c.args.point (k.embed c.in-Some.highest.now) (map k.embed ns)
    ∙ ap (evaluated k c.args.point) (sym (ap (map k.embed) whole ∙ map_push k.embed ns c.in-Some.highest.now))
