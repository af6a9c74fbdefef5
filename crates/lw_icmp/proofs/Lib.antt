pub mod MessagesLaws
