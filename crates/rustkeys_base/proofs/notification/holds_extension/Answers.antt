use Rattle.std.proofs.Common.{ap, ◌∙◌}
use Rattle.rustkeys_base.specs.Notification.{extension, holds}
use Rattle.rustkeys_base.proofs.HeldWords.{is_some-found}
use Rattle.rustkeys_base.proofs.notification.holds_extension.Goals as goal

pub returns : goal.returns
returns c =
    c.is_some.ensures ∙ is_some-found extension c.as_bytes.result.now c.find.result c.find.ensures ∙ ap (holds extension) c.as_bytes.ensures.value
