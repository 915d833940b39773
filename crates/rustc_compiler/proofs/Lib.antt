pub mod DigestForms
