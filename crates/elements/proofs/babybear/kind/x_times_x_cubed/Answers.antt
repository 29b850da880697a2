use Rattle.std.proofs.Common.{refl, ap, ◌∙◌}
use Rattle.elements.specs.Bear.{bear, times}
use Rattle.elements.specs.BearLaws.{alike}
use Rattle.elements.proofs.babybear.kind.x_times_x_cubed.Goals as goal

pub returns : goal.returns
returns c =
    let is = c.product.ensures ∙ ap (λ a. times a c.element-2.result) c.element.ensures ∙ ap (times (bear 0 1 0 0)) c.element-2.ensures in
    record { fourth = is ∙ alike _ _ refl refl refl refl; product = is; eleven = is ∙ alike _ _ refl refl refl refl }
