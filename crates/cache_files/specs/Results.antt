-- Results as they are kept, and as a session has them.
use Rattle.cache_format.specs.declared.kept_result.KeptResult.{KeptResult}
use Rattle.wrap_base.specs.declared.store_key.Family.TheVariants as families
use Rattle.wrap_base.specs.declared.store_key.Shape.TheVariants as shapes
use Rattle.wrap_base.specs.declared.store_key.StoreKey.{StoreKey}

-- the key of a result
abbrev pub key_in : KeptResult → StoreKey
key_in e = record { family = families.C; shape = shapes.C e.shape; names = e.names; digest = e.digest }
