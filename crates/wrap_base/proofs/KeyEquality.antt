-- Keys are equal exactly if their fields are.
use Rattle.std.proofs.Common.{◌≡◌, ℕ, Bool, true, false, ◌&&◌, List, [], ◌∷◌, refl, ap, Option, None, Some, nat_eq}
use Rattle.std.specs.Bool.{Decides}
use Rattle.std.specs.Cmp.{unsigned_Decides, booleans_Decides}
use Rattle.std.specs.Cmp.Lexicographic.{pointwise}
use Rattle.std.specs.Option.{option_eq}
use Rattle.cmdlines_tables.specs.declared.language.Language.{Language}
use Rattle.cmdlines_tables.specs.declared.language.Language.TheVariants.{C, Cxx, CPreprocessed, CxxPreprocessed, Assembler, AssemblerToPreprocess, Rust}
use Rattle.cmdlines_tables.specs.contracts.language.LanguagePartialEq.TheImpl as language_eq
use Rattle.ckeys_records.specs.contracts.output_name.OutputNamePartialEq.TheImpl as name_eq
use Rattle.ckeys_records.specs.contracts.shape.CShapePartialEq.TheImpl as c_shape_eq
use Rattle.rustc_parts.specs.contracts.parts.RShapePartialEq.TheImpl as rustc_shape_eq
use Rattle.rustc_parts.specs.declared.parts.RShape.{RShape}
use Rattle.ckeys_records.specs.declared.output_name.OutputName.{OutputName}
use Rattle.ckeys_records.specs.declared.shape.CShape.{CShape}
use Rattle.wrap_base.specs.contracts.store_key.FamilyPartialEq.TheImpl as family_eq
use Rattle.wrap_base.specs.contracts.store_key.ShapePartialEq.TheImpl as shape_eq
use Rattle.wrap_base.specs.contracts.store_key.StoreKeyPartialEq.TheImpl as key_eq
use Rattle.wrap_base.specs.declared.store_key.Family.{Family}
use Rattle.wrap_base.specs.declared.store_key.Family.TheVariants as families
use Rattle.wrap_base.specs.declared.store_key.Shape.{Shape}
use Rattle.wrap_base.specs.declared.store_key.Shape.TheVariants as shapes
use Rattle.wrap_base.specs.declared.store_key.StoreKey.{StoreKey}

both : {P Q : Type 0} (s t : Bool) → Decides s P → Decides t Q → Decides (s && t) (P × Q)
both true t p q = (λ h. (p.0 refl, q.0 h), λ r. q.1 r.1)
both false t p q = (λ h. cc, λ r. p.1 r.0)

lists : {A : Type 0} (eq : A → A → Bool) → ((x y : A) → Decides (eq x y) (x ≡ y)) → (xs ys : List A) → Decides (pointwise eq xs ys) (xs ≡ ys)
lists eq d [] [] = (λ h. refl, λ e. refl)
lists eq d [] (y ∷ ys) = (λ h. cc, λ e. cc)
lists eq d (x ∷ xs) [] = (λ h. cc, λ e. cc)
lists eq d (x ∷ xs) (y ∷ ys) =
    let parts = both (eq x y) (pointwise eq xs ys) (d x y) (lists eq d xs ys) in
    (λ h. let p = parts.0 h in λ i. p.0 i ∷ p.1 i, λ e. parts.1 (cc, cc))

pub families_are : (x y : Family) → Decides (family_eq.ghosts.eq x y) (x ≡ y)
families_are families.C families.C = (λ h. refl, λ e. refl)
families_are families.C families.Rustc = (λ h. cc, λ e. cc)
families_are families.Rustc families.C = (λ h. cc, λ e. cc)
families_are families.Rustc families.Rustc = (λ h. refl, λ e. refl)

languages_are : (x y : Language) → Decides (language_eq.ghosts.eq x y) (x ≡ y)
languages_are C C = (λ h. refl, λ e. refl)
languages_are C Cxx = (λ h. cc, λ e. cc)
languages_are C CPreprocessed = (λ h. cc, λ e. cc)
languages_are C CxxPreprocessed = (λ h. cc, λ e. cc)
languages_are C Assembler = (λ h. cc, λ e. cc)
languages_are C AssemblerToPreprocess = (λ h. cc, λ e. cc)
languages_are C Rust = (λ h. cc, λ e. cc)
languages_are Cxx C = (λ h. cc, λ e. cc)
languages_are Cxx Cxx = (λ h. refl, λ e. refl)
languages_are Cxx CPreprocessed = (λ h. cc, λ e. cc)
languages_are Cxx CxxPreprocessed = (λ h. cc, λ e. cc)
languages_are Cxx Assembler = (λ h. cc, λ e. cc)
languages_are Cxx AssemblerToPreprocess = (λ h. cc, λ e. cc)
languages_are Cxx Rust = (λ h. cc, λ e. cc)
languages_are CPreprocessed C = (λ h. cc, λ e. cc)
languages_are CPreprocessed Cxx = (λ h. cc, λ e. cc)
languages_are CPreprocessed CPreprocessed = (λ h. refl, λ e. refl)
languages_are CPreprocessed CxxPreprocessed = (λ h. cc, λ e. cc)
languages_are CPreprocessed Assembler = (λ h. cc, λ e. cc)
languages_are CPreprocessed AssemblerToPreprocess = (λ h. cc, λ e. cc)
languages_are CPreprocessed Rust = (λ h. cc, λ e. cc)
languages_are CxxPreprocessed C = (λ h. cc, λ e. cc)
languages_are CxxPreprocessed Cxx = (λ h. cc, λ e. cc)
languages_are CxxPreprocessed CPreprocessed = (λ h. cc, λ e. cc)
languages_are CxxPreprocessed CxxPreprocessed = (λ h. refl, λ e. refl)
languages_are CxxPreprocessed Assembler = (λ h. cc, λ e. cc)
languages_are CxxPreprocessed AssemblerToPreprocess = (λ h. cc, λ e. cc)
languages_are CxxPreprocessed Rust = (λ h. cc, λ e. cc)
languages_are Assembler C = (λ h. cc, λ e. cc)
languages_are Assembler Cxx = (λ h. cc, λ e. cc)
languages_are Assembler CPreprocessed = (λ h. cc, λ e. cc)
languages_are Assembler CxxPreprocessed = (λ h. cc, λ e. cc)
languages_are Assembler Assembler = (λ h. refl, λ e. refl)
languages_are Assembler AssemblerToPreprocess = (λ h. cc, λ e. cc)
languages_are Assembler Rust = (λ h. cc, λ e. cc)
languages_are AssemblerToPreprocess C = (λ h. cc, λ e. cc)
languages_are AssemblerToPreprocess Cxx = (λ h. cc, λ e. cc)
languages_are AssemblerToPreprocess CPreprocessed = (λ h. cc, λ e. cc)
languages_are AssemblerToPreprocess CxxPreprocessed = (λ h. cc, λ e. cc)
languages_are AssemblerToPreprocess Assembler = (λ h. cc, λ e. cc)
languages_are AssemblerToPreprocess AssemblerToPreprocess = (λ h. refl, λ e. refl)
languages_are AssemblerToPreprocess Rust = (λ h. cc, λ e. cc)
languages_are Rust C = (λ h. cc, λ e. cc)
languages_are Rust Cxx = (λ h. cc, λ e. cc)
languages_are Rust CPreprocessed = (λ h. cc, λ e. cc)
languages_are Rust CxxPreprocessed = (λ h. cc, λ e. cc)
languages_are Rust Assembler = (λ h. cc, λ e. cc)
languages_are Rust AssemblerToPreprocess = (λ h. cc, λ e. cc)
languages_are Rust Rust = (λ h. refl, λ e. refl)

lengths_are : (x y : Option ℕ) → Decides (option_eq nat_eq x y) (x ≡ y)
lengths_are None None = (λ h. refl, λ e. refl)
lengths_are None (Some y) = (λ h. cc, λ e. cc)
lengths_are (Some x) None = (λ h. cc, λ e. cc)
lengths_are (Some x) (Some y) = (λ h. ap Some ((unsigned_Decides x y).0 h), λ e. (unsigned_Decides x y).1 (cc))

c_shapes_are : (a b : CShape) → Decides (c_shape_eq.ghosts.eq a b) (a ≡ b)
c_shapes_are a b =
    let parts = both _ _ (languages_are a.language b.language) (both _ _ (unsigned_Decides a.compiler_digest b.compiler_digest) (both _ _ (unsigned_Decides a.words b.words) (both _ _ (lists nat_eq unsigned_Decides a.extra_hashes b.extra_hashes) (both _ _ (lengths_are a.assembler_digest b.assembler_digest) (unsigned_Decides a.variables b.variables))))) in (
      (λ h. let p = parts.0 h in λ i. record { language = p.0 i; compiler_digest = p.1.0 i; words = p.1.1.0 i; extra_hashes = p.1.1.1.0 i; assembler_digest = p.1.1.1.1.0 i; variables = p.1.1.1.1.1 i }),
      (λ e. parts.1 (ap (λ (c : CShape). c.language) e, (ap (λ (c : CShape). c.compiler_digest) e, (ap (λ (c : CShape). c.words) e, (ap (λ (c : CShape). c.extra_hashes) e, (ap (λ (c : CShape). c.assembler_digest) e, ap (λ (c : CShape). c.variables) e)))))),
    )

rustc_shapes_are : (a b : RShape) → Decides (rustc_shape_eq.ghosts.eq a b) (a ≡ b)
rustc_shapes_are a b =
    let parts = both _ _ (unsigned_Decides a.toolchain b.toolchain) (both _ _ (lists nat_eq unsigned_Decides a.words b.words) (both _ _ (unsigned_Decides a.sources b.sources) (both _ _ (unsigned_Decides a.externs b.externs) (both _ _ (unsigned_Decides a.archives b.archives) (both _ _ (booleans_Decides a.has_target b.has_target) (both _ _ (booleans_Decides a.has_profile b.has_profile) (both _ _ (lists _ booleans_Decides a.env_deps b.env_deps) (unsigned_Decides a.variables b.variables)))))))) in (
      (λ h. let p = parts.0 h in λ i. record { toolchain = p.0 i; words = p.1.0 i; sources = p.1.1.0 i; externs = p.1.1.1.0 i; archives = p.1.1.1.1.0 i; has_target = p.1.1.1.1.1.0 i; has_profile = p.1.1.1.1.1.1.0 i; env_deps = p.1.1.1.1.1.1.1.0 i; variables = p.1.1.1.1.1.1.1.1 i }),
      (λ e. parts.1 (ap (λ (c : RShape). c.toolchain) e, (ap (λ (c : RShape). c.words) e, (ap (λ (c : RShape). c.sources) e, (ap (λ (c : RShape). c.externs) e, (ap (λ (c : RShape). c.archives) e, (ap (λ (c : RShape). c.has_target) e, (ap (λ (c : RShape). c.has_profile) e, (ap (λ (c : RShape). c.env_deps) e, ap (λ (c : RShape). c.variables) e))))))))),
    )

shapes_are : (a b : Shape) → Decides (shape_eq.ghosts.eq a b) (a ≡ b)
shapes_are (shapes.C a) (shapes.C b) = (λ h. ap shapes.C ((c_shapes_are a b).0 h), λ e. (c_shapes_are a b).1 (cc))
shapes_are (shapes.C a) (shapes.Rustc b) = (λ h. cc, λ e. cc)
shapes_are (shapes.Rustc a) (shapes.C b) = (λ h. cc, λ e. cc)
shapes_are (shapes.Rustc a) (shapes.Rustc b) = (λ h. ap shapes.Rustc ((rustc_shapes_are a b).0 h), λ e. (rustc_shapes_are a b).1 (cc))

names_are : (a b : OutputName) → Decides (name_eq.ghosts.eq a b) (a ≡ b)
names_are a b =
    let parts = both _ _ (lists nat_eq unsigned_Decides a.name b.name) (booleans_Decides a.optional b.optional) in (
      (λ h. let p = parts.0 h in λ i. record { name = p.0 i; optional = p.1 i }),
      (λ e. parts.1 (ap (λ (n : OutputName). n.name) e, ap (λ (n : OutputName). n.optional) e)),
    )

pub keys_are : (a b : StoreKey) → Decides (key_eq.ghosts.eq a b) (a ≡ b)
keys_are a b =
    let parts = both _ _ (families_are a.family b.family) (both _ _ (shapes_are a.shape b.shape) (both _ _ (lists name_eq.ghosts.eq names_are a.names b.names) (lists nat_eq unsigned_Decides a.digest b.digest))) in (
      (λ h. let p = parts.0 h in λ i. record { family = p.0 i; shape = p.1.0 i; names = p.1.1.0 i; digest = p.1.1.1 i }),
      (λ e. parts.1 (ap (λ (s : StoreKey). s.family) e, (ap (λ (s : StoreKey). s.shape) e, (ap (λ (s : StoreKey). s.names) e, ap (λ (s : StoreKey). s.digest) e)))),
    )
